-- The cycle of the report passes the test of a cycle.
use Rattle.std.proofs.Common.{◌≡◌, ℕ, zero, suc, ◌+◌, ◌-◌, ◌<◌, List, [], ◌∷◌, ◌++◌, length, sym, ap, ◌∙◌, subst, inl, inr, arith, get_or}
use Rattle.std.specs.Prelude.{Any}
use Rattle.std.proofs.lemmas.List.{get_or_default, length-append, get_or-append-add}
use Rattle.armus_base.specs.Counts.{IsDistinct}
use Rattle.armus_base.specs.Graphs.{WaitsFor}
use Rattle.armus_base.specs.Statuses.{Impedes}
use Rattle.armus_base.specs.calls.Statuses.{IsInOrder}
use Rattle.armus_base.specs.declared.event.Event.{Event}
use Rattle.armus_base.specs.declared.ids.TaskId.{TaskId}
use Rattle.armus_base.specs.declared.status.Status.{Status}
use Rattle.dep_state.proofs.DeadSets.{one_status}
use Rattle.verdict.specs.calls.Cycles.{IsCycleOf, IsCycle}
use Rattle.verdict.specs.declared.found.Cycle.{Cycle}

-- the right part of a list of distinct elements
distinct_right : {X : Type 0} (xs ys : List X) → IsDistinct (xs ++ ys) → IsDistinct ys
distinct_right [] ys d = d
distinct_right (x ∷ xs) ys d = distinct_right xs ys d.1

-- distinct elements differ at different places
distinct_at : {X : Type 0} (xs : List X) (j k : ℕ) (d : X) → IsDistinct xs → j < k → k < length xs → get_or xs j d ≡ get_or xs k d → ⊥
distinct_at [] j k d h below lt e = omega arith
distinct_at (x ∷ xs) zero zero d h below lt e = omega arith
distinct_at (x ∷ xs) zero (suc k) d h below lt e = h.0 (k, omega arith, get_or_default xs k x d (omega arith) ∙ sym e)
distinct_at (x ∷ xs) (suc j) zero d h below lt e = omega arith
distinct_at (x ∷ xs) (suc j) (suc k) d h below lt e = distinct_at xs j k d h.1 (omega arith) (omega arith) e

module _ (ss : List Status) (ok : IsInOrder ss) (dead : List TaskId) (c : Cycle) (h : IsCycleOf ss dead c) where
  -- an element of the cycle is one of the walk
  in_walk : (k : ℕ) (t : TaskId) → get_or (h.walk.before ++ c.tasks) (length h.walk.before + k) t ≡ get_or c.tasks k t
  in_walk k t = get_or-append-add h.walk.before c.tasks k t

  -- where one waits for another, the other impedes its event
  impeded_by : (k : ℕ) (t u : TaskId) (e : Event) → k < length c.tasks → WaitsFor ss (get_or c.tasks k t) u → Any (λ s. (s.t ≡ u) × Impedes s (get_or c.events k e)) ss
  impeded_by k t u e lt (s, i, st, (v, (j, jl, je), vt, p)) =
      let (s', i', st', se) = h.events.each k t e lt in
      let one = one_status ss ok s s' i i' (st ∙ sym st') in
      (j, v, jl, je, (vt, subst (λ x. Impedes v x) (ap (λ x. x.event) one ∙ se) p))

  pub is_cycle : IsCycle ss c.tasks c.events
  is_cycle =
      let n = length-append h.walk.before c.tasks in
      record {
        sized = h.events.sized;
        some = h.walk.some;
        each = λ k lt. record {
          awaits = λ t e. let (s, (j, jl, je), st, se) = h.events.each k t e lt in (j, s, jl, je, (st, se));
          impeded = λ j t e next. elim next [
            | inl last ↦
                let a : get_or (h.walk.before ++ c.tasks) (length (h.walk.before ++ c.tasks) - 1) t ≡ get_or c.tasks k t =
                ap (λ i. get_or (h.walk.before ++ c.tasks) i t) (omega (arith, last.0)) ∙ in_walk k t in
                let b : get_or c.tasks 0 t ≡ get_or c.tasks j t = ap (λ i. get_or c.tasks i t) (sym last.1) in
                impeded_by k t (get_or c.tasks j t) e lt (rw (a, b) at (h.walk.back t).waits)
            | inr more ↦
                let a = in_walk k t in
                let b : get_or (h.walk.before ++ c.tasks) (length h.walk.before + k + 1) t ≡ get_or c.tasks j t =
                ap (λ i. get_or (h.walk.before ++ c.tasks) i t) (omega (arith, more.1)) ∙ in_walk j t in
                impeded_by k t (get_or c.tasks j t) e lt (rw (a, b) at (h.walk.steps (length h.walk.before + k) t (omega (arith, more.0))).waits)
          ];
          new_task = λ j t below e. distinct_at c.tasks j k t (distinct_right h.walk.before c.tasks h.walk.distinct) below lt e;
        };
      }
