-- The dead of a state's statuses are the dead of the state.
use Rattle.std.proofs.Common.{◌≡◌, ℕ, ◌<◌, Bool, true, Some, None, List, [], ◌∷◌, length, sym, ◌∙◌, ap, subst, refl, eq-eqb, inl, inr}
use Rattle.std.specs.Prelude.{◌↔◌}
use Rattle.std.proofs.lemmas.Option.{slice_get_within}
use Rattle.armus_base.specs.declared.event.Event.{Event}
use Rattle.armus_base.specs.Deadlocks.{IsDeadBy, IsDeadIn}
use Rattle.armus_base.specs.calls.FinalLaws.{DeadByFinal, DeadByStatuses, IsOfPlan, RunIsOfPlan}
use Rattle.armus_base.specs.Finals.{is_awaited, is_event_of, statuses_on}
use Rattle.armus_base.specs.Plans.{Action, Advances, Blocks, Drops, Forks, Makes, Passes, Plan, Refuses, Registers}
use Rattle.armus_base.specs.Runs.{IsLegalRun, state_after}
use Rattle.armus_base.specs.States.{IsLegal, State, Step, after, next_phase}
use Rattle.armus_base.proofs.Fixed.{some_before_from}
use Rattle.armus_base.proofs.Members.{published_member}
use Rattle.armus_base.proofs.StatusesAre.{events_are, events_from, phases_are, phases_from}
use Rattle.armus_base.proofs.Steps.{with_phase_is}
use Rattle.armus_base.proofs.Tasks.{member_within}

phaser_after :
    (plan : Plan) (s : State) (u : ℕ) (x : Action) → IsLegal plan s u x → ((t p n : ℕ) → s.phases t p ≡ Some n → p < length plan.makers) →
    (t p n : ℕ) → (after s u x).phases t p ≡ Some n → p < length plan.makers
phaser_after plan s u (Makes q) legal before t p n m =
    elim (with_phase_is s.phases u q (Some 0) t p (Some n) m) [
      | inl w ↦ subst (λ v. v < length plan.makers) (sym w.1) (slice_get_within plan.makers q legal.1.0 legal.1.1)
      | inr w ↦ before t p n w.1
    ]
phaser_after plan s u (Registers c q) legal before t p n m =
    elim (with_phase_is s.phases c q (s.phases u q) t p (Some n) m) [
      | inl w ↦ subst (λ v. v < length plan.makers) (sym w.1) (before u q legal.3.0 legal.3.1)
      | inr w ↦ before t p n w.1
    ]
phaser_after plan s u (Forks c) legal before t p n m = before t p n m
phaser_after plan s u (Advances q) legal before t p n m =
    elim (with_phase_is s.phases u q (next_phase (s.phases u q)) t p (Some n) m) [
      | inl w ↦ subst (λ v. v < length plan.makers) (sym w.1) (before u q legal.1.0 legal.1.1)
      | inr w ↦ before t p n w.1
    ]
phaser_after plan s u (Drops q) legal before t p n m =
    elim (with_phase_is s.phases u q None t p (Some n) m) [ inl w ↦ absurd (cc) | inr w ↦ before t p n w.1 ]
phaser_after plan s u (Blocks q) legal before t p n m = before t p n m
phaser_after plan s u (Passes q) legal before t p n m = before t p n m
phaser_after plan s u (Refuses q) legal before t p n m = before t p n m

-- whoever is a member of a phaser, it is one of the plan
pub phaser_within :
    (plan : Plan) (h : List Step) → IsLegalRun plan h → (t p n : ℕ) → (state_after h).phases t p ≡ Some n → p < length plan.makers
phaser_within plan [] run t p n m = absurd (cc)
phaser_within plan (e ∷ h) run t p n m =
    phaser_after plan (state_after h) e.task e.action run.1.legal (phaser_within plan h run.0) t p n m

pub run_is_of_plan : RunIsOfPlan
run_is_of_plan plan h checked run =
    record {
      published = λ t e is.
          let member = published_member plan h run t e is in
          member_within plan checked h run t e.p.0 member.0 member.1;
      member = member_within plan checked h run;
      phaser = phaser_within plan h run;
    }

module _ (plan : Plan) (s : State) (asked : ℕ → Bool) (of_plan : IsOfPlan plan s) (all : (t : ℕ) (e : Event) → s.published t ≡ Some e → asked e.p.0 ≡ true) where
  -- the asked phasers include each awaited one: then the statuses have what makes a set deadlocked
  pub dead_on_asked : (t : ℕ) → IsDeadBy (statuses_on plan s asked) t ↔ IsDeadIn s t
  dead_on_asked t = (
    λ dead. record {
      tasks = dead.tasks;
      inside = dead.inside;
      deadlocked = record {
        some = dead.deadlocked.some;
        each = λ u inside.
            let one = dead.deadlocked.each u inside in
            record {
              event = one.event;
              waits = (events_are plan s asked u one.event one.waits).1;
              by = one.by;
              inside = one.inside;
              phase = one.phase;
              impedes = (phases_are plan s asked one.by one.event.p.0 one.phase one.impedes).phase;
              below = one.below;
            };
      };
    },
    λ dead. record {
      tasks = dead.tasks;
      inside = dead.inside;
      deadlocked = record {
        some = dead.deadlocked.some;
        each = λ u inside.
            let one = dead.deadlocked.each u inside in
            let other = dead.deadlocked.each one.by one.inside in
            record {
              event = one.event;
              waits = events_from plan s asked u one.event (of_plan.published u one.event one.waits, one.waits);
              by = one.by;
              inside = one.inside;
              phase = one.phase;
              impedes = phases_from plan s asked one.by one.event.p.0 one.phase
                  (record {
                    task = of_plan.published one.by other.event other.waits;
                    event = other.event;
                    published = other.waits;
                    phaser = of_plan.phaser one.by one.event.p.0 one.phase one.impedes;
                    asked_for = all u one.event one.waits;
                    phase = one.impedes;
                  });
              below = one.below;
            };
      };
    },
  )

pub dead_by_statuses : DeadByStatuses
dead_by_statuses plan s t of_plan = dead_on_asked plan s (λ p. true) of_plan (λ u e is. refl) t

pub dead_by_final : DeadByFinal
dead_by_final plan s t of_plan =
    dead_on_asked plan s (is_awaited plan s) of_plan
    (λ u e is. some_before_from
    (λ v. is_event_of e.p.0 (s.published v))
    (length plan.parents)
    u
    (of_plan.published u e is)
    (ap (is_event_of e.p.0) is ∙ eq-eqb e.p.0 e.p.0 refl)) t
