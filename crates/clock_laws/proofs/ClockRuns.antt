-- The runs of the direct machine on an unfolding: they are bounded, end, and are runs of the plan.
use Rattle.std.proofs.Common.{◌≡◌, ℕ, true, false, Option, Some, None, List, [], ◌∷◌, arith, sym, ◌∙◌, ap, subst, refl, inl, inr}
use Rattle.std.specs.Prelude.{Contains, is_some}
use Rattle.std.proofs.lemmas.Bool.{eq-eqb, false≢true, ne_eqb}
use Rattle.armus_base.specs.Plans.{maker_of}
use Rattle.armus_base.specs.Runs.{state_after}
use Rattle.armus_base.specs.States.{Step}
use Rattle.armus_base.proofs.Elements.{Contains-cons_cases}
use Rattle.clock_semantics.specs.Moves.{Move, ActivityStanding, after_move, begins, opens}
use Rattle.clock_semantics.specs.Unfolding.{ClockUnfolding, activities, plan_of_moves}
use Rattle.clock_laws.specs.calls.Direct.{ClockState}
use Rattle.clock_laws.specs.calls.Laws.{AgreesOnClock, AgreesOnFinish, DirectRunsAreBounded, DirectRunsEnd, DirectRunsMatch, IsClockNumber, IsFinishNumber, IsMatchedBy, moves_of}
use Rattle.clock_laws.proofs.Lawful.{AreLawfulMoves, ClockKinds, IsLawfulMove}
use Rattle.clock_laws.proofs.Bounded.{bounded_run, run_ends}
use Rattle.clock_laws.proofs.Cells.{finish_phase, forgot_unsignalled, member_open, open_phase, registered_is, remembers_below, signalled_phase, unsignalled_phase}
use Rattle.clock_laws.proofs.Entries.{some_is}
use Rattle.clock_laws.proofs.LawfulMoves.{kinds_now, many_moves, plan_is_of_moves}
use Rattle.clock_laws.proofs.Matching.{Matches}
use Rattle.clock_laws.proofs.Simulating.{IsPlanOfMoves, run_follows}

pub runs_are_bounded : DirectRunsAreBounded
runs_are_bounded p u ts s e run = bounded_run u.moves (activities u) (omega (arith, many_moves p u e)) ts s run

pub runs_end : DirectRunsEnd
runs_end p u ts s e run = run_ends u.moves (activities u) (omega (arith, many_moves p u e)) ts s run

-- what is opened is a clock, and what is begun a finish
module _ (clock : ClockKinds) (maker : ℕ → ℕ) (t : ℕ) where
  opened_clock : (p : ℕ) (ms : List Move) (s : ActivityStanding) → AreLawfulMoves clock maker t s ms → Contains ms (opens p) → clock.is p ≡ true
  opened_clock p [] s lawful has = absurd (let l = has.1 in omega arith)
  opened_clock p (m ∷ ms) s lawful has =
      elim (Contains-cons_cases m ms (opens p) has) [
        | inl same ↦ (let here = subst (λ v. IsLawfulMove clock maker t s v) same lawful.0 in here)
        | inr later ↦ opened_clock p ms (after_move m s) lawful.2 later
      ]

  begun_finish : (f : ℕ) (ms : List Move) (s : ActivityStanding) → AreLawfulMoves clock maker t s ms → Contains ms (begins f) → clock.is f ≡ false
  begun_finish f [] s lawful has = absurd (let l = has.1 in omega arith)
  begun_finish f (m ∷ ms) s lawful has =
      elim (Contains-cons_cases m ms (begins f) has) [
        | inl same ↦ (let here = subst (λ v. IsLawfulMove clock maker t s v) same lawful.0 in here)
        | inr later ↦ begun_finish f ms (after_move m s) lawful.2 later
      ]

member_is : (o : Option ℕ) → is_some o ≡ true → (j : ℕ) × (o ≡ Some j)
member_is None e = absurd (false≢true e)
member_is (Some j) e = (j, refl)

module _ (u : ClockUnfolding) (clock : ClockKinds) (of : IsPlanOfMoves (plan_of_moves u) clock (moves_of u)) where
  pub is_clock : (p : ℕ) → IsClockNumber u p → clock.is p ≡ true
  is_clock p has = opened_clock clock (maker_of (plan_of_moves u)) has.0 p (moves_of u has.0) (clock.first has.0) (of.lawful has.0) has.1

  pub is_finish : (f : ℕ) → IsFinishNumber u f → clock.is f ≡ false
  is_finish f has = begun_finish clock (maker_of (plan_of_moves u)) has.0 f (moves_of u has.0) (clock.first has.0) (of.lawful has.0) has.1

  module _ (s : ClockState) (h : List Step) (m : Matches (plan_of_moves u) clock s h) where
    on_clock : (p t : ℕ) → clock.is p ≡ true → AgreesOnClock s (state_after h) p t
    on_clock p t is =
        record {
          registered = registered_is (m.cells p t) is;
          second = λ n e f. some_is (sym e ∙ unsignalled_phase (m.cells p t) f);
          above = λ n e f. signalled_phase (m.cells p t) is f n e;
          remembers = λ n k e f. some_is (sym e ∙ remembers_below (m.cells p t) k f);
          forgot = λ n e f. forgot_unsignalled (m.cells p t) is n e f;
          least = λ e. m.live p t e;
        }

    on_finish : (f t : ℕ) → clock.is f ≡ false → AgreesOnFinish (plan_of_moves u) s (state_after h) f t
    on_finish f t is =
        record {
          waited_for = λ e.
              (let o = open_phase (m.cells f t) e in
              (ap is_some o.0, λ same. false≢true (sym o.1 ∙ eq-eqb t (maker_of (plan_of_moves u) f) same)));
          members = λ e n.
              (let j = member_is ((state_after h).phases t f) e in
              member_open (m.cells f t) is (ne_eqb t (maker_of (plan_of_moves u) f) n) j.0 j.1);
          first = λ n e. some_is (sym e ∙ finish_phase (m.cells f t) is n e);
        }

    pub is_matched : IsMatchedBy u s h
    is_matched =
        record {
          run = m.run;
          started = m.started;
          clocks = λ p t has. on_clock p t (is_clock p has);
          finishes = λ f t has. on_finish f t (is_finish f has);
        }

pub runs_match : DirectRunsMatch
runs_match p u ts s e run =
    let of = plan_is_of_moves p u e in
    let h = run_follows (plan_of_moves u) (kinds_now p u e) (moves_of u) of ts s run in
    (h.0, is_matched u (kinds_now p u e) of s h.0 h.1)
