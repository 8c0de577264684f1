-- A walk to a cycle by one relation is one by another, where each of its steps is.
use Rattle.std.proofs.Common.{◌≡◌, ℕ, zero, suc, ◌+◌, ◌-◌, ◌<◌, List, ◌++◌, length, arith, sym, subst, get_or, length-append}
use Rattle.armus_base.specs.Relations.{IsWalkCycle}

module _ {X : Type 0} (R Q : X → X → Type 0) (Good : X → Type 0) (on : (a b : X) → Good a → R a b → Q a b × Good b) (start : X) (good_start : Good start)
    (cycle : List X) (w : IsWalkCycle R start cycle) where
  nodes : List X
  nodes = w.before ++ cycle

  -- each node of the walk is a good one
  good : (k : ℕ) (d : X) → k < length nodes → Good (get_or nodes k d)
  unfolding nodes
  good zero d lt = subst Good (sym (w.starts d)) good_start
  good (suc k) d lt =
      let step = on (get_or nodes k d) (get_or nodes (k + 1) d) (good k d (omega arith)) (w.steps k d (omega arith)) in
      let e : k + 1 ≡ suc k = omega arith in
      subst (λ j. Good (get_or nodes j d)) e step.1

  pub walk_along : IsWalkCycle Q start cycle
  unfolding nodes
  walk_along =
      record {
        before = w.before;
        starts = w.starts;
        steps = λ k d lt. (on (get_or nodes k d) (get_or nodes (k + 1) d) (good k d (omega arith)) (w.steps k d lt)).0;
        distinct = w.distinct;
        some = w.some;
        back = λ d.
            let last : length nodes - 1 < length nodes = omega (arith, w.some, length-append w.before cycle) in
            (on (get_or nodes (length nodes - 1) d) (get_or cycle 0 d) (good (length nodes - 1) d last) (w.back d)).0;
      }
