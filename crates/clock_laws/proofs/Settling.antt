-- After a move the clocks go on in which each has signalled.
use Rattle.std.proofs.Common.{◌≡◌, ℕ, ◌+◌, ◌<◌, Bool, true, false, Some, None, List, length, arith, sym, ◌∙◌, subst, refl, inl, inr}
use Rattle.std.specs.Prelude.{◌==◌, ◌&&◌, not, if◌then◌else◌}
use Rattle.std.proofs.lemmas.Bool.{cases_Bool, cases_eq, false≢true}
use Rattle.armus_base.specs.Plans.{Action, Plan, maker_of}
use Rattle.armus_base.specs.States.{Step}
use Rattle.armus_base.specs.Runs.{state_after}
use Rattle.armus_base.specs.Places.{some_before}
use Rattle.armus_base.specs.CheckedPlans.{IsCheckedPlan}
use Rattle.armus_base.proofs.Fixed.{some_before_from, some_before_is}
use Rattle.armus_base.proofs.Steps.{updated_other}
use Rattle.armus_base.proofs.Tasks.{member_within}
use Rattle.clock_semantics.specs.Moves.{Move}
use Rattle.clock_laws.proofs.Lawful.{ClockKinds}
use Rattle.clock_laws.specs.calls.Direct.{ClockState, going, is_through, settled}
use Rattle.clock_laws.proofs.Acting.{actions_left}
use Rattle.clock_laws.proofs.Cells.{AgreesAt, enrolled_member, goes_on_at, unsignalled_phase}
use Rattle.clock_laws.proofs.Matching.{HasLeft, Matches, Midst, arrives, goes_first}

each_signalled : (a x : Bool) → (a && not x) ≡ true → x ≡ false
each_signalled a true e = absurd (grind arith)
each_signalled a false e = refl

one_unsignalled : (a x : Bool) → (a && not x) ≡ false → a ≡ true → x ≡ true
one_unsignalled true true e f = refl
one_unsignalled true false e f = absurd (cc)
one_unsignalled false x e f = absurd (cc)

module _ (plan : Plan) (checked : IsCheckedPlan plan) (clock : ClockKinds) (t : ℕ) where
  -- a move begins
  pub begins_move :
      (s : ClockState) (h : List Step) → Matches plan clock s h → s.started t ≡ true → Midst plan clock t None s h (actions_left plan h t)
  begins_move s h m started =
      record {
        run = m.run;
        acting = sym (m.started t) ∙ started;
        quiet = m.quiet;
        started = m.started;
        cells = m.cells;
        idle = m.idle;
        firsts = m.firsts;
        others = λ u n. m.left u;
        own = refl;
      }

  -- what is left of its actions, in other words
  pub in_other_words :
      (s : ClockState) (h : List Step) (xs ys : List Action) → Midst plan clock t None s h xs → xs ≡ ys → Midst plan clock t None s h ys
  in_other_words s h xs ys m e = subst (Midst plan clock t None s h) e m

  -- the activity has a move less
  pub has_moved :
      (s : ClockState) (h : List Step) (ms : List Move) (xs : List Action) → Midst plan clock t None s h xs →
      Midst plan clock t None (going t ms s) h xs
  has_moved s h ms xs m =
      arrives plan checked t clock None None s (going t ms s) h h xs xs m (goes_first plan checked t h xs m.run m.own) m.acting m.quiet m.started
      m.cells m.idle m.firsts (λ u n. updated_other s.left t u ms n) (λ q u n. refl)

  -- the clocks go on, and the move has ended
  module _ (s : ClockState) (h : List Step) (xs : List Action) (m : Midst plan clock t None s h xs)
      (l : HasLeft clock (maker_of plan) t (λ p. s.remembered p t) (s.left t) xs) where
    within : (p u j : ℕ) → (state_after h).phases u p ≡ Some j → u < length plan.parents
    within p u j w = member_within plan checked h m.run.0 u p j w

    abbrev through : ℕ → Bool
    through p = is_through (length plan.parents) s p

    none_unsignalled : (p u : ℕ) → through p ≡ true → s.unsignalled p u ≡ false
    none_unsignalled p u e =
        elim (cases_Bool (s.unsignalled p u)) [
          | inl held ↦
              absurd (false≢true
              (sym (each_signalled (some_before (s.enrolled p) (length plan.parents)) (some_before (s.unsignalled p) (length plan.parents)) e)
              ∙ some_before_from (s.unsignalled p) (length plan.parents) u (within p u (s.phase p) (unsignalled_phase (m.cells p u) held)) held))
          | inr none ↦ none
        ]

    cell_settled :
        (p u : ℕ) (b : Bool) → through p ≡ b →
        AgreesAt (clock.is p) (u == maker_of plan p) (if b then s.phase p + 1 else s.phase p) (s.enrolled p u)
        (if b then s.enrolled p u else s.unsignalled p u) (s.remembered p u) (s.open_set p u) ((state_after h).phases u p)
    cell_settled p u true e = goes_on_at (m.cells p u) (none_unsignalled p u e)
    cell_settled p u false e = m.cells p u

    live_settled :
        (p u : ℕ) (b : Bool) → through p ≡ b → s.enrolled p u ≡ true → (v : ℕ) × (if b then s.enrolled p v else s.unsignalled p v) ≡ true
    live_settled p u true e enrolled = (u, enrolled)
    live_settled p u false e enrolled =
        let member = enrolled_member (m.cells p u) enrolled in
        let some = some_before_from (s.enrolled p) (length plan.parents) u (within p u member.0 member.1) enrolled in
        let by = some_before_is (s.unsignalled p) (length plan.parents) (one_unsignalled (some_before (s.enrolled p) (length plan.parents)) (some_before (s.unsignalled p)
        (length plan.parents)) e some) in
        (by.0, by.2)

    pub ends_move : Matches plan clock (settled (length plan.parents) s) h
    ends_move =
        record {
          run = m.run;
          quiet = m.quiet;
          started = m.started;
          cells = λ p u. cell_settled p u (through p) refl;
          idle = m.idle;
          firsts = m.firsts;
          left = λ u. elim (cases_eq u t) [
            | inl same ↦
                subst (λ v. HasLeft clock (maker_of plan) v (λ p. s.remembered p v) (s.left v) (actions_left plan h v)) (sym same)
                (subst (HasLeft clock (maker_of plan) t (λ p. s.remembered p t) (s.left t)) (sym m.own) l)
            | inr other ↦ m.others u other
          ];
          live = λ p u. live_settled p u (through p) refl;
        }
