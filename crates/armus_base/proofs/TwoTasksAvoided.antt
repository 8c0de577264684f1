-- The serial run of the two tasks that avoids deadlock, step by step: it has four rounds, and the second task is refused.
use Rattle.std.proofs.Common.{◌≡◌, ℕ, zero, suc, ◌<◌, ◌≤◌, Option, Some, None, [], ◌∷◌, arith, sym, ◌∙◌, ap, subst, refl, inl, inr}
use Rattle.std.specs.Prelude.{nat_lt}
use Rattle.std.proofs.lemmas.Bool.{ltb-true}
use Rattle.std.proofs.lemmas.Bool.Decides.{nat_tests}
use Rattle.armus_base.specs.declared.event.Event.{Event}
use Rattle.armus_base.specs.Plans.{Advances, Drops, Passes, Refuses, action_at, actions, maker_of, parent_of}
use Rattle.armus_base.specs.calls.Plans.{here}
use Rattle.armus_base.specs.States.{IsReached, event_at, updated}
use Rattle.armus_base.specs.Runs.{IsLegalRun, is_done, is_refused, is_waiting, state_after}
use Rattle.armus_base.specs.Deadlocks.{IsAtPhase, IsImpededWithin, IsPublishedOn, WouldBeDead}
use Rattle.armus_base.specs.Serial.{IsSerialAvoidedEnd, IsTurn, RoundBelow, opens, rounds}
use Rattle.armus_base.specs.calls.TwoTasks.{all_turns, before_block, does, first_turn, second_turn, two_tasks}
use Rattle.armus_base.proofs.Steps.{updated_is}

of_some_phaser : (n : ℕ) (e : Event) → Some (event_at 0 n) ≡ Some e → 0 ≡ e.p.0
of_some_phaser n e h = ap (λ o. phaser_of o) h
  where
    phaser_of : Option Event → ℕ
    phaser_of None = 0
    phaser_of (Some d) = d.p.0

of_some_phase : (n : ℕ) (e : Event) → Some (event_at 0 n) ≡ Some e → n ≡ e.n
of_some_phase n e h = ap (λ o. phase_of o) h
  where
    phase_of : Option Event → ℕ
    phase_of None = 0
    phase_of (Some d) = d.n

pub some_is : (m n : ℕ) → Some m ≡ Some n → m ≡ n
some_is m n h = cc

-- where task 0 blocks nobody else is published
pub alone : WouldBeDead (state_after before_block) 0 ((event_at 0 1)) → ⊥
alone dead =
    let held = dead.deadlocked.each 0 dead.inside in
    let next = dead.deadlocked.each held.by held.inside in
    elim (updated_is (state_after before_block).published 0 held.by (Some ((event_at 0 1))) (Some next.event) next.waits) [
      | inl own ↦
          let phaser : 0 ≡ held.event.p.0 = of_some_phaser 1 held.event held.waits in
          let phase : 1 ≡ held.event.n = of_some_phase 1 held.event held.waits in
          let at_event : (state_after before_block).phases 0 held.event.p.0 ≡ Some held.phase =
          subst (λ u. (state_after before_block).phases u held.event.p.0 ≡ Some held.phase) own.0 held.impedes in
          let at_phaser : (state_after before_block).phases 0 0 ≡ Some held.phase =
          subst (λ q. (state_after before_block).phases 0 q ≡ Some held.phase) (sym phaser) at_event in
          let one : 1 ≡ held.phase = some_is 1 held.phase at_phaser in
          let below = held.below in
          omega arith
      | inr other ↦ absurd (let none = other.1 in cc)
    ]

pub second_dead : WouldBeDead (state_after (does 1 (Advances 1) ∷ first_turn)) 1 ((event_at 1 1))
second_dead =
    record { tasks = λ u. nat_lt u 2; inside = refl; deadlocked = record { some = (1, refl); each = λ u inside. held u (ltb-true u 2 inside) } }
  where
    held : (u : ℕ) → u < 2 → IsImpededWithin (IsPublishedOn
        (record (state_after (does 1 (Advances 1) ∷ first_turn))
        { published = updated (state_after (does 1 (Advances 1) ∷ first_turn)).published 1 (Some ((event_at 1 1))) }))
        (IsAtPhase (state_after (does 1 (Advances 1) ∷ first_turn))) (λ w. nat_lt w 2) u
    held zero l = record { event = (event_at 0 1); waits = refl; by = 1; inside = refl; phase = 0; impedes = refl; below = omega arith }
    held (suc zero) l = record { event = (event_at 1 1); waits = refl; by = 0; inside = refl; phase = 0; impedes = refl; below = omega arith }
    held (suc (suc u)) l = absurd (omega arith)

first_run : IsLegalRun two_tasks first_turn
unfolding parent_of maker_of actions action_at
first_run = (
  (
    (
      (
        (
          (
            (
              tt,
              record {
                legal = (record { forked = refl; unpublished = refl; unrefused = refl }, (record { 0 = 0 }, refl, refl), refl);
                by_code = refl;
              },
            ),
            record {
              legal = (record { forked = refl; unpublished = refl; unrefused = refl }, (record { 0 = 0 }, refl, refl), refl);
              by_code = refl;
            },
          ),
          record {
            legal = (record { forked = refl; unpublished = refl; unrefused = refl }, (record { 0 = 0 }, refl, refl), refl, (0, refl), refl);
            by_code = refl;
          },
        ),
        record {
          legal = (record { forked = refl; unpublished = refl; unrefused = refl }, (record { 0 = 0 }, refl, refl), refl, (0, refl), refl);
          by_code = refl;
        },
      ),
      record {
        legal = (record { forked = refl; unpublished = refl; unrefused = refl }, (record { 0 = 0 }, refl, refl), refl);
        by_code = refl;
      },
    ),
    record { legal = (record { forked = refl; unpublished = refl; unrefused = refl }, (0, refl)); by_code = refl },
  ),
  record { legal = (record { forked = refl; unpublished = refl; unrefused = refl }, (1, refl)); by_code = refl },
)

second_run : IsLegalRun two_tasks second_turn
unfolding parent_of maker_of actions action_at
second_run = (
  (
    (
      (
        first_run,
        record { legal = (record { forked = refl; unpublished = refl; unrefused = refl }, (0, refl)); by_code = refl },
      ),
      record { legal = (record { forked = refl; unpublished = refl; unrefused = refl }, (1, refl)); by_code = refl },
    ),
    record { legal = (refl, refl, (0, refl), λ some q l. absurd (omega arith)); by_code = tt },
  ),
  record { legal = (refl, refl, (1, refl), λ some q l. low q l); by_code = tt },
)
  where
    low : (q : ℕ) → q < 1 → (state_after (does 1 (Drops 0) ∷ does 1 (Refuses (here 1)) ∷ does 1 (Advances 1) ∷ first_turn)).phases 1 q ≡ None
    low zero l = refl
    low (suc q) l = absurd (omega arith)

all_run : IsLegalRun two_tasks all_turns
unfolding parent_of maker_of actions action_at
all_run = (second_run, record { legal = (refl, 1, refl, reached, refl); by_code = refl })
  where
    reached : IsReached (state_after second_turn) (event_at 0 1)
    reached zero m h = let one : 1 ≡ m = some_is 1 m h in omega arith
    reached (suc zero) m h = absurd (let none : (state_after second_turn).phases 1 0 ≡ None = refl in let x : None ≡ Some m = sym none ∙ h in cc)
    reached (suc (suc u)) m h = absurd (let none : (state_after second_turn).phases (suc (suc u)) 0 ≡ None = grind (arith, nat_tests) in let x : None ≡ Some m = sym none ∙ h in cc)

not_reached : IsReached (state_after first_turn) (event_at 0 1) → ⊥
not_reached r = let x : 1 ≤ 0 = r 1 0 refl in omega arith

turn_0 : IsTurn two_tasks 0 [] first_turn
unfolding parent_of maker_of actions action_at
turn_0 =
    record {
      own = first_turn;
      there = refl;
      run = first_run;
      goes_on = (((((((tt, refl, tt), refl, tt), refl, tt), refl, tt), refl, tt), refl, tt), refl, (event_at 0 1, refl, alone));
      ended = is_waiting ((event_at 0 1)) refl not_reached;
    }

round_1 : RoundBelow two_tasks 2 [] first_turn
round_1 = (first_turn, ([], refl, turn_0), refl)

turn_1 : IsTurn two_tasks 1 first_turn second_turn
turn_1 =
    record {
      own = does 1 (Drops 1) ∷ does 1 (Drops 0) ∷ does 1 (Refuses (here 1)) ∷ does 1 (Advances 1) ∷ [];
      there = refl;
      run = second_run;
      goes_on = ((((tt, refl, tt), refl, (event_at 1 1, refl, second_dead)), refl, tt), refl, tt);
      ended = is_refused refl gone;
    }
  where
    gone : (p : ℕ) → (state_after second_turn).phases 1 p ≡ None
    gone zero = refl
    gone (suc zero) = refl
    gone (suc (suc p)) = grind (arith, nat_tests)

still_0 : IsTurn two_tasks 0 first_turn first_turn
still_0 =
    record { own = []; there = refl; run = first_run; goes_on = tt; ended = is_waiting ((event_at 0 1)) refl not_reached }

round_2 : RoundBelow two_tasks 2 first_turn second_turn
round_2 = (first_turn, (first_turn, refl, still_0), turn_1)

turn_0' : IsTurn two_tasks 0 second_turn all_turns
unfolding parent_of maker_of actions action_at
turn_0' = record { own = does 0 (Passes 0) ∷ []; there = refl; run = all_run; goes_on = (tt, refl, tt); ended = is_done refl }

still_1 : IsTurn two_tasks 1 all_turns all_turns
still_1 = record { own = []; there = refl; run = all_run; goes_on = tt; ended = is_refused refl gone }
  where
    gone : (p : ℕ) → (state_after all_turns).phases 1 p ≡ None
    gone zero = refl
    gone (suc zero) = refl
    gone (suc (suc p)) = grind (arith, nat_tests)

still_0' : IsTurn two_tasks 0 all_turns all_turns
unfolding parent_of maker_of actions action_at
still_0' = record { own = []; there = refl; run = all_run; goes_on = tt; ended = is_done refl }

round_3 : RoundBelow two_tasks 2 second_turn all_turns
round_3 = (all_turns, (second_turn, refl, turn_0'), still_1)

pub serial_end : IsSerialAvoidedEnd two_tasks all_turns
serial_end = (rounds (rounds (rounds opens round_1) round_2) round_3, (all_turns, (all_turns, refl, still_0'), still_1))
