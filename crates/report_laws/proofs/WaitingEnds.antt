-- Where the direct machine can make no step, the task of an activity that waits stands at an op of the move that this has to make next.
use Rattle.std.proofs.Common.{◌≡◌, ℕ, ◌+◌, ◌<◌, Bool, true, false, Option, Some, Ok, List, [], ◌∷◌, ◌++◌, append-nil, drop, arith, sym, ◌∙◌, ap, subst, refl, inl, inr}
use Rattle.std.specs.Prelude.{is_some, unwrap_or}
use Rattle.std.specs.Option.{option_map}
use Rattle.std.proofs.lemmas.Bool.{cases_lt}
use Rattle.armus_base.specs.declared.ending.TaskEnd.{TaskEnd}
use Rattle.armus_base.specs.declared.ending.TaskEnd.TheVariants.{Blocked}
use Rattle.armus_base.specs.declared.event.Event.{Event}
use Rattle.armus_base.specs.declared.offset.Offset.TheVariants.{Here}
use Rattle.armus_base.specs.calls.FinalLaws.{Tells}
use Rattle.armus_base.specs.calls.Plans.{here}
use Rattle.armus_base.specs.Finals.{end_of}
use Rattle.armus_base.specs.Offsets.{target}
use Rattle.armus_base.specs.Places.{done_by}
use Rattle.armus_base.specs.Plans.{Action, Advances, Blocks, Drops, Passes, Plan, actions, actions_of, code_of, maker_of}
use Rattle.armus_base.specs.Runs.{IsMaximal, IsPlainRun, places, state_after}
use Rattle.armus_base.specs.States.{IsReached, State, Step, awaited, event_at, event_on, next_phase}
use Rattle.armus_base.proofs.EarlierPlaces.{passed}
use Rattle.armus_base.proofs.EndsTell.{ends_tell}
use Rattle.armus_base.proofs.OneEnd.{below_maximal}
use Rattle.armus_base.proofs.Stepping.{places_fix}
use Rattle.armus_base.proofs.Steps.{updated_same, with_phase_same}
use Rattle.clock_syntax.specs.Trees.{ClockTree}
use Rattle.clock_semantics.specs.Moves.{Move, advances, code_from, code_of_moves, ends, no_standing, stops, unregistered_from, with_pending}
use Rattle.clock_semantics.specs.Unfolding.{ClockUnfolding, activities, clock_unfolded, plan_of_moves}
use Rattle.clock_semantics.proofs.EachStops.{each_activity_stops}
use Rattle.clock_semantics.proofs.MoveCodes.{stood, stood-append}
use Rattle.clock_laws.specs.calls.Direct.{ClockState, StandsAs, has_ended, unstarted, waits_at_advance, waits_at_end}
use Rattle.clock_laws.specs.calls.Laws.{IsDirectEnd, moves_of}
use Rattle.clock_laws.proofs.Acting.{actions_left, acts_legally, next_legal_here, step_of, then_left}
use Rattle.clock_laws.proofs.Cells.{finish_phase, remembers_below}
use Rattle.clock_laws.proofs.ClockEnds.{ends_are_those_of_tasks}
use Rattle.clock_laws.proofs.Lawful.{AreLawfulMoves, ClockKinds}
use Rattle.clock_laws.proofs.LawfulMoves.{kinds_now, plan_is_of_moves}
use Rattle.clock_laws.proofs.Matching.{HasLeft, Matches}
use Rattle.clock_laws.proofs.Simulating.{IsPlanOfMoves, advance_actions, run_follows}
use Rattle.report_laws.proofs.MovesOfRuns.{AreOfKinds, HasMade, Remembers, between, kinds_of_lawful, run_made, signalled}
use Rattle.report_laws.proofs.WaitingMoves.{WaitsAtMove, same_code, waits_at_advance_move, waits_at_end_move}

-- ---- events

-- on which event a task is published behind its await
published_by : (h : List Step) (t p n : ℕ) → (state_after h).phases t p ≡ Some n → (state_after (step_of t (Blocks (here p)) ∷ h)).published t ≡ Some (event_at p n)
published_by h t p n phase =
    updated_same (state_after h).published t t (awaited (Some (Blocks (here p))) ((state_after h).phases t)) refl
    ∙ ap (λ o. event_on p (option_map (target Here) o)) phase

module _ (plan : Plan) (clock : ClockKinds) (moves : ℕ → List Move) (of : IsPlanOfMoves plan clock moves) (s : ClockState) (h : List Step) (matches : Matches plan clock s h)
    (g : List Step) (run : IsPlainRun plan g) (maximal : IsMaximal plan g) (t : ℕ) (started : s.started t ≡ true) where
  -- a run to the event on which the task is published at the end has all its steps
  same_done : (f : List Step) (e : Event) → IsPlainRun plan f → (state_after f).published t ≡ Some e → (IsReached (state_after g) e → ⊥) → done_by (places g) t ≡ done_by (places f) t
  same_done f e run_f published unreached =
      let at = places_fix plan of.checked f run_f.0 in
      let low = below_maximal plan of.checked g run maximal f run_f t in
      elim (cases_lt (done_by (places f) t) (done_by (places g) t)) [
        | inl less ↦
            absurd (unreached (passed plan of.checked g run.0 t (done_by (places f) t) e (sym (ap (λ (z : State). z.published t) at.0) ∙ published) less).1)
        | inr most ↦ omega (arith, low, most)
      ]

  abbrev own : HasLeft clock (maker_of plan) t (λ p. s.remembered p t) (s.left t) (actions_left plan h t)
  own = matches.left t

  left_now : (ms : List Move) → s.left t ≡ ms → actions_left plan h t ≡ actions_of (code_from own.standing ms)
  left_now ms is = own.code ∙ ap (λ v. actions_of (code_from own.standing v)) is

  forked : (state_after h).forked t ≡ true
  forked = sym (matches.started t) ∙ started

  -- what its task has left at the end of the run, where the activity waits at an advance
  pub left_at_advance :
      (p k : ℕ) (ms : List Move) → s.left t ≡ advances p ∷ ms → s.remembered p t ≡ Some k → (IsReached (state_after g) (event_at p (k + 1)) → ⊥) →
      drop (places g t).done (actions plan t) ≡ Passes p ∷ actions_of (code_from (with_pending p false own.standing) ms)
  left_at_advance p k ms is memory unreached =
      let rest = code_from (with_pending p false own.standing) ms in
      let xs : List Action = Passes p ∷ actions_of rest in
      let left : actions_left plan h t ≡ Blocks (here p) ∷ xs =
      left_now (advances p ∷ ms) is ∙ ap (λ b. advance_actions b p rest) (own.pending p ∙ ap is_some memory) in
      let legal = next_legal_here plan of.checked h matches.run t (Blocks (here p)) xs left forked (matches.quiet t) in
      let more = acts_legally plan of.checked h matches.run t (Blocks (here p)) xs left legal in
      let phase : (state_after h).phases t p ≡ Some (k + 1) = remembers_below (matches.cells p t) k memory in
      ap (λ d. drop d (actions plan t)) (same_done (step_of t (Blocks (here p)) ∷ h) (event_at p (k + 1)) more (published_by h t p (k + 1) phase) unreached)
      ∙ then_left plan of.checked h matches.run t (Blocks (here p)) xs left more

  -- or at the end of a finish
  pub left_at_end :
      (f : ℕ) (ms : List Move) → s.left t ≡ ends f ∷ ms → (IsReached (state_after g) (event_at f 1) → ⊥) →
      drop (places g t).done (actions plan t) ≡ Passes f ∷ (Drops f ∷ actions_of (code_from (unregistered_from f own.standing) ms))
  left_at_end f ms is unreached =
      let lawful = subst (AreLawfulMoves clock (maker_of plan) t own.standing) is own.lawful in
      let xs : List Action = Passes f ∷ (Drops f ∷ actions_of (code_from (unregistered_from f own.standing) ms)) in
      let left : actions_left plan h t ≡ Advances f ∷ (Blocks (here f) ∷ xs) = left_now (ends f ∷ ms) is in
      let legal = next_legal_here plan of.checked h matches.run t (Advances f) (Blocks (here f) ∷ xs) left forked (matches.quiet t) in
      let member = legal.1 in
      let first : (state_after h).phases t f ≡ Some 0 = finish_phase (matches.cells f t) lawful.0.0 member.0 member.1 in
      let a : List Step = step_of t (Advances f) ∷ h in
      let run_a = acts_legally plan of.checked h matches.run t (Advances f) (Blocks (here f) ∷ xs) left legal in
      let left_a = then_left plan of.checked h matches.run t (Advances f) (Blocks (here f) ∷ xs) left run_a in
      let legal_a = next_legal_here plan of.checked a run_a t (Blocks (here f)) xs left_a forked (matches.quiet t) in
      let more = acts_legally plan of.checked a run_a t (Blocks (here f)) xs left_a legal_a in
      let phase : (state_after a).phases t f ≡ Some 1 =
      with_phase_same (state_after h).phases t f (next_phase ((state_after h).phases t f)) ∙ ap next_phase first in
      ap (λ d. drop d (actions plan t)) (same_done (step_of t (Blocks (here f)) ∷ a) (event_at f 1) more (published_by a t f 1 phase) unreached)
      ∙ then_left plan of.checked a run_a t (Blocks (here f)) xs left_a more

-- ---- an unfolding

-- of these moves an activity has made some, and it stands so at its next one
pub record WaitsNext (clock : ℕ → Bool) (moves : List Move) (memory : ℕ → Option ℕ) (left : List Move) (done : ℕ) : Type 0 where
  pub made : List Move
  pub split : moves ≡ made ++ left
  pub waits : WaitsAtMove clock moves memory made done

module _ (p : ClockTree) (u : ClockUnfolding) (e : clock_unfolded p ≡ Ok u) (s : ClockState) (end : IsDirectEnd u s) (g : List Step)
    (run : IsPlainRun (plan_of_moves u) g) (maximal : IsMaximal (plan_of_moves u) g) (t : ℕ) (inside : t < activities u) where
  abbrev plan : Plan
  plan = plan_of_moves u

  abbrev clock : ClockKinds
  clock = kinds_now p u e

  abbrev of : IsPlanOfMoves plan clock (moves_of u)
  of = plan_is_of_moves p u e

  abbrev memory : ℕ → Option ℕ
  memory q = s.remembered q t

  abbrev done : ℕ
  done = (places g t).done

  all_kinds : (a : ℕ) → AreOfKinds clock.is (moves_of u a)
  all_kinds a = kinds_of_lawful clock (maker_of plan) a (clock.first a) (moves_of u a) (of.lawful a)

  has_made : HasMade clock.is (moves_of u t) memory (s.left t)
  has_made = run_made (activities u) clock.is (moves_of u) end.steps s all_kinds end.run t

  matched : (h : List Step) × Matches plan clock s h
  matched = run_follows plan clock (moves_of u) of end.steps s end.run

  -- the code of its task is that of its moves
  pub code_is : code_of plan t ≡ code_of_moves (moves_of u t)
  code_is = of.codes t ∙ same_code clock.is (clock.first t) no_standing (moves_of u t) (all_kinds t) (λ q is. of.idle t q)

  left_in_code : (xs : List Action) → drop done (actions plan t) ≡ xs → drop done (actions_of (code_of_moves (moves_of u t))) ≡ xs
  unfolding actions
  left_in_code xs is = ap (λ ops. drop done (actions_of ops)) (sym code_is) ∙ is

  -- an activity has ended as its task has
  pub stands : StandsAs s t (end_of (state_after g) t)
  stands = ends_are_those_of_tasks p u s (state_after g) t e end (record { steps = g; run = run; maximal = maximal; there = refl }) inside

  tells : Tells plan g t (end_of (state_after g) t)
  tells = ends_tell plan g t of.checked run.0 maximal

  -- where its task is blocked, the activity waits so
  pub waits_next : (event : Event) → end_of (state_after g) t ≡ Blocked event → WaitsNext clock.is (moves_of u t) memory (s.left t) done
  waits_next event blocked = by (end_of (state_after g) t) stands tells blocked
    where
      by : (x : TaskEnd) → StandsAs s t x → Tells plan g t x → x ≡ Blocked event → WaitsNext clock.is (moves_of u t) memory (s.left t) done
      by x (unstarted idle) tells same = absurd (cc)
      by x (has_ended started over) tells same = absurd (cc)
      by x (waits_at_advance c k ms started left remembers) tells same =
          let h = subst (HasMade clock.is (moves_of u t) memory) left has_made in
          let own = matched.1.left t in
          record {
            made = h.made;
            split = h.split ∙ ap (λ z. h.made ++ z) (sym left);
            waits =
                waits_at_advance_move clock.is (moves_of u t) memory c ms h (all_kinds t) (ap is_some remembers) own.standing (λ q is. own.pending q) done
                (left_in_code _ (left_at_advance plan clock (moves_of u) of s matched.0 matched.1 g run maximal t started c k ms left remembers tells.1));
          }
      by x (waits_at_end f ms started left) tells same =
          let h = subst (HasMade clock.is (moves_of u t) memory) left has_made in
          let own = matched.1.left t in
          record {
            made = h.made;
            split = h.split ∙ ap (λ z. h.made ++ z) (sym left);
            waits =
                waits_at_end_move clock.is (moves_of u t) memory f ms h (all_kinds t) own.standing (λ q is. own.pending q) done
                (left_in_code _ (left_at_end plan clock (moves_of u) of s matched.0 matched.1 g run maximal t started f ms left tells.1));
          }

  -- who has made all its moves remembers no phase
  pub forgets_at_end : s.left t ≡ [] → (q : ℕ) → clock.is q ≡ true → is_some (memory q) ≡ false
  forgets_at_end over q is = by has_made.remembers
    where
      stopped : (ms : List Move) × (ps : List ℕ) × (has_made.made ≡ ms ++ stops ps ∷ [])
      stopped =
          let (ms, ps, are, none) = each_activity_stops p u e t inside in (
            ms,
            ps,
            sym (append-nil has_made.made) ∙ ap (λ z. has_made.made ++ z) (sym over) ∙ sym has_made.split ∙ ap (λ o. unwrap_or o []) are,
          )

      none_pending : (stood no_standing has_made.made).pending q ≡ false
      none_pending =
          let (ms, ps, are) = stopped in
          ap (λ z. (stood no_standing z).pending q) are ∙ ap (λ z. z.pending q) (stood-append no_standing ms (stops ps ∷ []))

      by : Remembers clock.is (stood no_standing has_made.made).pending memory (s.left t) → is_some (memory q) ≡ false
      by (between agree) = sym (agree q is) ∙ none_pending
      by (signalled c ms left off some agree) = absurd (let both : [] ≡ advances c ∷ ms = sym over ∙ left in cc)
