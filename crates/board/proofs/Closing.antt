-- The opening and the end of a board.
use mathlib.Core.Path.{fun_ext}
use Rattle.std.proofs.Common.{◌≡◌, ◌≢◌, ℕ, zero, suc, ◌<◌, ◌≤◌, Bool, true, false, List, [], ◌∷◌, Option, Some, None, length, replicate, sym, refl, ap, ◌∙◌, subst, arith, inl, inr, eq-eqb, ne_eqb, eqb-true}
use Rattle.std.specs.Prelude.{◌==◌, ◌||◌, slice_get}
use Rattle.std.proofs.lemmas.Bool.{cases_eq, cases_lt, false≢true}
use Rattle.std.proofs.lemmas.List.{length-replicate, get_or_past}
use Rattle.std.proofs.lemmas.Option.{slice_get_within}
use mathlib.Core.Option.{some, some-injective, some-ne-none}
use lib.ListN.{get_elem?}
use Rattle.atomic_table.specs.Table.{Final, Seen, State as TableState, opening as opens}
use Rattle.armus_base.specs.Plans.{Action, Plan, action_at, actions, parent_of}
use Rattle.armus_base.specs.States.{updated}
use Rattle.armus_base.specs.calls.Runs.{IsPrefix}
use Rattle.armus_base.specs.Runs.{Place, first_place}
use Rattle.armus_base.specs.calls.Places.{IsConsistent}
use Rattle.armus_base.specs.Places.{done_by, forked_at, forks, published_after, some_before, state_at}
use Rattle.armus_base.specs.CheckedPlans.{IsCheckedPlan}
use Rattle.armus_base.specs.calls.Boards.{IsLawful}
use Rattle.armus_base.specs.calls.Seats.{IsAsFarOn, IsPlaceOf, SeenBy}
use Rattle.armus_base.proofs.Steps.{updated_other, updated_same}
use Rattle.armus_base.proofs.Fixed.{root_forked}
use Rattle.armus_base.proofs.Tasks.{no_action}
use Rattle.armus_base.proofs.Stepping.{opening_fixed, unforked_idle, unforked_undropped}
use Rattle.armus_base.proofs.LawfulPlaces.{lawful_places_are_of}
use Rattle.armus_base.proofs.BoardRuns.{lawful_is_reachable, opening_is_lawful}
use Rattle.armus_base.proofs.Reachable.{reachable_is_fixed}
use Rattle.board.specs.declared.mode.Mode.{Mode}
use Rattle.board.specs.declared.mode.Setting.{Setting}
use Rattle.board.specs.declared.view.View.{View}
use Rattle.board.specs.calls.Words.{IsShown, word_count}
use Rattle.board.specs.calls.Views.{avoids, is_among, place_in, seen}
use Rattle.board.specs.calls.Rule.{SeatFits, IsKept, IsKeptBy, IsThere, Stepper, by_seat, first_view, no_more, not_yet}
use Rattle.board.specs.calls.Closing.{AreAllExact, AreLastOf}
use Rattle.board.proofs.Showing.{shows_opening}
use Rattle.board.proofs.Fitting.{none_scanned, seat_ends, seats_same}
use Rattle.board.proofs.Forking.{first_before}

seat_steps : (j : ℕ) → by_seat j ≡ not_yet → ⊥
seat_steps j e = cc

-- a checked plan has task 0
pub some_task : (plan : Plan) → IsCheckedPlan plan → 0 < length plan.parents
some_task plan checked = slice_get_within plan.parents 0 None checked.tables.root

pub first_places : (n u : ℕ) → place_in (replicate n first_place) u ≡ first_place
first_places zero u = refl
first_places (suc n) zero = refl
first_places (suc n) (suc u) = first_places n u

-- the rule holds at the opening
pub opens_kept : (k : Setting) (words : List ℕ) (homes : List (Unit {0})) → IsCheckedPlan k.plan.value → words ≡ replicate (word_count k.plan.value) 0 →
    IsKept k (opens words homes (first_view k))
opens_kept k words homes checked is =
    record {
      places = at_first;
      lock = None;
      steppers = one;
      checked = checked;
      lawful = opening_is_lawful (avoids k.mode) plan;
      shown = subst (λ (ws : List ℕ). IsShown plan (state_at plan at_first) None ws) (sym is)
          (subst (λ st. IsShown plan st None (replicate (word_count plan) 0)) (opening_fixed plan checked) (shows_opening plan));
      seated = record {
        forks = λ t. let forked : (t == 0) ≡ forked_at plan (done_by at_first) t = ap (λ st. st.forked t) (opening_fixed plan checked) in
            elim (cases_eq t 0) [
              | inl e ↦ (
                λ no. absurd (false≢true (sym no ∙ sym forked ∙ eq-eqb t 0 e)),
                λ idle. absurd (seat_steps 0 (sym (updated_same (λ _. not_yet) 0 t (by_seat 0) e) ∙ idle)),
              )
              | inr n ↦ (
                λ no. updated_other (λ _. not_yet) 0 t (by_seat 0) n,
                λ idle. sym forked ∙ ne_eqb t 0 n,
              )
            ];
        seats = λ t j is. elim (cases_eq t 0) [
          | inl e ↦
              let same : 0 ≡ j = seats_same 0 j (sym (updated_same (λ _. not_yet) 0 t (by_seat 0) e) ∙ is) in
              (first_view k, subst (λ i. IsThere (first_view k ∷ []) i (first_view k)) same (record { found = refl; live = refl }), ap Some (sym e))
          | inr n ↦ absurd (seat_steps j (sym is ∙ updated_other (λ _. not_yet) 0 t (by_seat 0) n))
        ];
        ended = λ t is. elim (cases_eq t 0) [
          | inl e ↦ absurd (seat_ends 0 (sym (updated_same (λ _. not_yet) 0 t (by_seat 0) e) ∙ is))
          | inr n ↦ absurd (none_ended (sym (updated_other (λ _. not_yet) 0 t (by_seat 0) n) ∙ is))
        ];
      };
      views = each;
    }
  where
    none_ended : not_yet ≡ no_more → ⊥
    none_ended e = cc

    or_none : (b : Bool) → b ≡ (b || false)
    or_none true = refl
    or_none false = refl

    plan : Plan
    plan = k.plan.value

    at_first : ℕ → Place
    at_first = λ _. first_place

    one : ℕ → Stepper
    one = updated (λ _. not_yet) 0 (by_seat 0)

    only_first : (u : ℕ) → ((u == 0) || false) ≡ true → u ≡ 0
    only_first u e = eqb-true u 0 (or_none (u == 0) ∙ e)

    none_some : (u : ℕ) → None ≡ Some u → ⊥
    none_some u e = cc

    zero_some : (u : ℕ) → Some 0 ≡ Some u → 0 ≡ u
    zero_some u e = cc

    fits : SeatFits plan k.mode at_first None one 0 (first_view k)
    fits = record {
      plan_is = refl;
      mode_is = refl;
      count = length-replicate {A = Place} (length plan.parents) first_place;
      far = record {
        later = λ u w. subst (λ (x : Place). IsPrefix x first_place) (sym (first_places (length plan.parents) u)) (let z : 0 ≤ 0 = omega arith in z);
        equal = λ u w is. sym (first_places (length plan.parents) u);
        scanned = λ u e. none_scanned (state_at plan at_first) (published_after plan u (place_in (replicate (length plan.parents) first_place) u).done);
      };
      own = λ u e. let z = zero_some u e in record {
        within = subst (λ x. x < length plan.parents) z (some_task plan checked);
        exact = subst (λ x. is_among (0 ∷ []) x ≡ true) z refl;
        alone = subst (λ x. one x ≡ by_seat 0) z refl;
      };
      exact = λ u is. inl (ap Some (sym (only_first u is)));
      holding = λ u e. record { holds = λ has. absurd (false≢true has); held = λ lock. absurd (none_some u lock) };
      viewer = λ _. refl;
    }

    each : (j : ℕ) (v : View) → get_elem? (first_view k ∷ []) j ≡ some v → v.spent ≡ false → SeatFits plan k.mode at_first None one j v
    each zero v e unspent = subst (SeatFits plan k.mode at_first None one 0) (some-injective (first_view k) v e) fits
    each (suc j) v e unspent = absurd (some-ne-none v (sym e))

-- whether a task is forked is a matter of its parent's place
forked_by_parent : (plan : Plan) (f g : ℕ → ℕ) (t : ℕ) → f (parent_of plan t) ≡ g (parent_of plan t) → forked_at plan f t ≡ forked_at plan g t
unfolding forked_at
forked_by_parent plan f g t e = ap (λ k. (t == 0) || some_before (λ j. forks (action_at plan (parent_of plan t) j) t) k) e

-- the words at the end
module _ (plan : Plan) (mode : Mode) (a : ℕ → Place) (lock : Option ℕ) (checked : IsCheckedPlan plan) (lawful : IsLawful (avoids mode) plan a lock) where
  consistent : IsConsistent plan a
  consistent = (reachable_is_fixed plan a checked (lawful_is_reachable (avoids mode) plan a lock lawful)).1

  unforked_first : (t : ℕ) → forked_at plan (done_by a) t ≡ false → a t ≡ first_place
  unforked_first t e = λ i. record { done = unforked_idle plan checked a consistent t e i; dropped = unforked_undropped plan checked a consistent t e i }

  no_actions : (t : ℕ) → length plan.parents ≤ t → length (actions plan t) ≡ 0
  unfolding action_at
  no_actions t past = by_list (actions plan t) refl
    where
      by_list : (xs : List Action) → actions plan t ≡ xs → length xs ≡ 0
      by_list [] is = refl
      by_list (x ∷ xs) is = absurd
          (let e : slice_get (actions plan t) 0 ≡ None = no_action plan checked t 0 past in let f : slice_get (x ∷ xs) 0 ≡ None = ap (λ ys. slice_get ys 0) (sym is) ∙ e in cc)

  -- no place of what is no task is other than the first
  strange_first : (t : ℕ) → length plan.parents ≤ t → a t ≡ first_place
  strange_first t past = by_parts (a t).done (a t).dropped refl refl
    where
      of : IsPlaceOf (avoids mode) plan t (a t)
      of = lawful_places_are_of (avoids mode) plan a lock t checked lawful

      by_parts : (k : ℕ) (o : Option ℕ) → (a t).done ≡ k → (a t).dropped ≡ o → a t ≡ first_place
      by_parts zero None x e = λ i. record { done = x i; dropped = e i }
      by_parts k (Some d) x e = absurd (let stands = of.before_await d e in let none_there = no_action plan checked t (a t).done past in let at = stands.1 in cc)
      by_parts (suc k) None x e = absurd (let w = of.within in let z = no_actions t past in omega arith)

  -- where each task that is forked at the seen places is exact, these are the places
  module _ (seen : SeenBy) (far : IsAsFarOn plan None a seen) (all : AreAllExact plan seen) (past : (t : ℕ) → length plan.parents ≤ t → seen.places t ≡ first_place) where
    one_task : (t : ℕ) → t < length plan.parents → ((u : ℕ) → u < t → a u ≡ seen.places u) → a t ≡ seen.places t
    one_task t small before = by_test (forked_at plan (done_by seen.places) t) refl
      where
        parent_same : t ≢ 0 → a (parent_of plan t) ≡ seen.places (parent_of plan t)
        parent_same n = before (parent_of plan t) (checked.tables.parents_first t (omega arith))

        by_test : (b : Bool) → forked_at plan (done_by seen.places) t ≡ b → a t ≡ seen.places t
        by_test true is = far.equal t small (all t small is)
        by_test false is =
            let n : t ≢ 0 = λ z. false≢true (sym is ∙ ap (forked_at plan (done_by seen.places)) z ∙ root_forked plan (done_by seen.places)) in
            let here : a t ≡ first_place = unforked_first t (forked_by_parent plan (done_by a) (done_by seen.places) t (ap (λ (x : Place). x.done) (parent_same n)) ∙ is) in
            here ∙ sym (first_before (seen.places t) (a t) (far.later t small) here)

    below : (n t : ℕ) → t < n → t < length plan.parents → a t ≡ seen.places t
    below zero t l small = absurd (omega arith)
    below (suc n) t l small = one_task t small (λ u less. below n u (omega arith) (omega arith))

    pub exact_places : a ≡ seen.places
    exact_places = fun_ext (λ t. elim (cases_lt t (length plan.parents)) [
      | inl small ↦ below (suc t) t (omega arith) small
      | inr l ↦ strange_first t l ∙ sym (past t l)
    ])

-- the rule at the end
pub closes_kept : (plan : Plan) (mode : Mode) (s : TableState (Unit {0}) View) → IsKeptBy plan mode s → (id : ℕ) (v : View) → v.own ≡ None → v.spent ≡ false →
    get_elem? s.views id ≡ some v → AreLastOf plan mode (seen v) s.words
closes_kept plan mode s l id v alone live found =
    let f = l.views id v found live in
    let far : IsAsFarOn plan None l.places (seen v) = subst (λ o. IsAsFarOn plan o l.places (seen v)) alone f.far in
    record {
      last = record { places = l.places; lock = l.lock; lawful = l.lawful; shown = l.shown };
      far = far;
      exact = λ all. exact_places plan mode l.places l.lock l.checked l.lawful (seen v) far all
          (λ t past. get_or_past v.sight.places t first_place (let c = f.count in omega arith));
    }

pub closes : (k : Setting) (id : ℕ) (v : View) (words : List ℕ) (slots : List (Unit {0})) → v.own ≡ None → v.spent ≡ false →
    Final (Seen (IsKept k) id v) words slots → AreLastOf k.plan.value k.mode (seen v) words
closes k id v words slots alone live end =
    subst (AreLastOf k.plan.value k.mode (seen v)) end.2 (closes_kept k.plan.value k.mode end.0 end.1.0 id v alone live end.1.1)
