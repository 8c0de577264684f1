-- A serial run that avoids deadlock is an avoided run.
use Rattle.std.proofs.Common.{◌≡◌, ◌≢◌, ℕ, zero, suc, Bool, true, false, Some, List, [], ◌∷◌, ◌++◌, length, sym, ◌∙◌, ap, subst, inl, inr}
use Rattle.std.specs.Prelude.{MatchBool}
use Rattle.std.proofs.lemmas.Bool.{cases_Bool}
use Rattle.armus_base.specs.declared.event.Event.{Event}
use Rattle.armus_base.specs.Plans.{Action, Advances, Blocks, Drops, Forks, Makes, Passes, Plan, Refuses, Registers, Aim}
use Rattle.armus_base.specs.States.{State, Step, after, awaited, updated}
use Rattle.armus_base.specs.Runs.{IsLegalRun, state_after}
use Rattle.armus_base.specs.CheckedPlans.{IsCheckedPlan}
use Rattle.armus_base.specs.Deadlocks.{NobodyDead, WouldBeDead}
use Rattle.armus_base.specs.Avoidance.{Avoids, IsAvoidedRun, LeavesNobodyDead}
use Rattle.armus_base.specs.Serial.{GoesOn, IsDecided, IsSerialAvoidedRun, IsTurn, RoundBelow, opens, rounds}
use Rattle.armus_base.specs.calls.RunLaws.{SerialIsAvoided}
use Rattle.armus_base.proofs.Steps.{updated_other}
use Rattle.armus_base.proofs.NobodyIsDead.{nobody_is_dead}

-- where a task would not be dead if it were published on an event, nobody would be
pub publishing_leaves_nobody_dead : (s : State) (t : ℕ) (e : Event) → NobodyDead s → (WouldBeDead s t e → ⊥) → LeavesNobodyDead s t e
publishing_leaves_nobody_dead s t e nobody alive u dead =
    elim (cases_Bool (dead.tasks t)) [
      | inl inside ↦ alive (record { tasks = dead.tasks; inside = inside; deadlocked = dead.deadlocked })
      | inr outside ↦
          nobody u (record {
            tasks = dead.tasks;
            inside = dead.inside;
            deadlocked =
                record {
                  some = dead.deadlocked.some;
                  each = λ v inside.
                      let held = dead.deadlocked.each v inside in
                      let other : v ≢ t = λ i. absurd (let b : dead.tasks v ≡ false = ap dead.tasks i ∙ outside in cc) in
                      record {
                        event = held.event;
                        waits = sym (updated_other s.published t v (Some e) other) ∙ held.waits;
                        by = held.by;
                        inside = held.inside;
                        phase = held.phase;
                        impedes = held.impedes;
                        below = held.below;
                      };
                };
          })
    ]

-- a block of a task that would not be dead leaves nobody dead
pub block_leaves_nobody_dead :
    (s : State) (t : ℕ) (aim : Aim) (e : Event) → NobodyDead s → awaited (Some (Blocks aim)) (s.phases t) ≡ Some e → (WouldBeDead s t e → ⊥) →
    NobodyDead (after s t (Blocks aim))
block_leaves_nobody_dead s t aim e nobody awaits alive =
    subst (λ o. NobodyDead (record s { published = updated s.published t o })) (sym awaits) (publishing_leaves_nobody_dead s t e nobody alive)

decided_avoids : (s : State) (t : ℕ) (x : Action) → NobodyDead s → IsDecided s t x → Avoids s t x
decided_avoids s t (Blocks p) nobody decided = (decided.0, decided.1, publishing_leaves_nobody_dead s t decided.0 nobody decided.2)
decided_avoids s t (Refuses p) nobody decided = decided
decided_avoids s t (Makes p) nobody decided = tt
decided_avoids s t (Registers c p) nobody decided = tt
decided_avoids s t (Forks c) nobody decided = tt
decided_avoids s t (Advances p) nobody decided = tt
decided_avoids s t (Drops p) nobody decided = tt
decided_avoids s t (Passes p) nobody decided = tt

module _ (plan : Plan) (checked : IsCheckedPlan plan) where
  turn_avoided :
      (t : ℕ) (h own : List Step) → IsAvoidedRun plan h → IsLegalRun plan (own ++ h) → GoesOn plan t h own → IsAvoidedRun plan (own ++ h)
  turn_avoided t h [] avoided run goes_on = avoided
  turn_avoided t h (e ∷ own) avoided run goes_on =
      let before = turn_avoided t h own avoided run.0 goes_on.0 in
      let s = state_after (own ++ h) in (
        before,
        run.1,
        subst (λ v. Avoids s v e.action) (sym goes_on.1)
            (decided_avoids s t e.action (nobody_is_dead plan (own ++ h) checked before) goes_on.2),
      )

  last_turn :
      (k : ℕ) (r g : List Step) → IsAvoidedRun plan r → (b : Bool) → MatchBool b (IsTurn plan k r g) (g ≡ r) → IsAvoidedRun plan g
  last_turn k r g before true turn =
      subst (λ v. IsAvoidedRun plan v) (sym turn.there)
      (turn_avoided k r turn.own before (subst (λ v. IsLegalRun plan v) turn.there turn.run) turn.goes_on)
  last_turn k r g before false same = subst (λ v. IsAvoidedRun plan v) (sym same) before

  pub round_avoided : (k : ℕ) (h g : List Step) → IsAvoidedRun plan h → RoundBelow plan k h g → IsAvoidedRun plan g
  round_avoided zero h g avoided round = subst (λ v. IsAvoidedRun plan v) (sym round) avoided
  round_avoided (suc k) h g avoided round =
      last_turn k round.0 g (round_avoided k h round.0 avoided round.1) ((state_after h).forked k) round.2

  serial_avoided : {h : List Step} → IsSerialAvoidedRun plan h → IsAvoidedRun plan h
  serial_avoided opens = tt
  serial_avoided (rounds {h} {g} before round) = round_avoided (length plan.parents) h g (serial_avoided before) round

pub serial_is_avoided : SerialIsAvoided
serial_is_avoided plan h checked run = serial_avoided plan checked run
