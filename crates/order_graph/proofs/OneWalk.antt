-- There is one walk at most by nearest successors.
use Rattle.std.proofs.Common.{◌≡◌, ℕ, zero, suc, ◌+◌, ◌-◌, ◌<◌, ◌≤◌, List, length, ◌∙◌, sym, ap, subst, inl, inr, ◌⊎◌, arith, get_or}
use Rattle.std.proofs.lemmas.Bool.{cases_lt}
use Rattle.std.proofs.lemmas.List.{ext_get_or}
use Rattle.armus_base.specs.declared.ids.TaskId.{TaskId}
use Rattle.order_graph.specs.calls.Adding.{IsNearest, IsNearestWalk}
use Rattle.order_graph.specs.calls.Orders.{OrderValue, IsOrder}
use Rattle.order_graph.specs.calls.Laws.{OneNearestWalk}
use Rattle.order_graph.proofs.Climbing.{no_round}

module _ (o : OrderValue) (goal : TaskId) where
  -- a task has one nearest successor
  nearest_one : (a b c : TaskId) → IsNearest o goal a b → IsNearest o goal a c → b ≡ c
  nearest_one a b c x y =
      ap (λ n. let t : TaskId = record { 0 = n } in t) (same_number (x.least c y.left y.edge y.walk) (y.least b x.left x.edge x.walk))
    where
      same_number : (x.left < y.left) ⊎ ((x.left ≡ y.left) × (b.0 ≤ c.0)) → (y.left < x.left) ⊎ ((y.left ≡ x.left) × (c.0 ≤ b.0)) → b.0 ≡ c.0
      same_number (inl less) (inl more) = absurd (omega arith)
      same_number (inl less) (inr same) = absurd (let e = same.0 in omega arith)
      same_number (inr same) (inl more) = absurd (let e = same.0 in omega arith)
      same_number (inr same) (inr also) = (let l = same.1 in let m = also.1 in omega arith)

  module _ (ok : IsOrder o) (start : TaskId) where
    -- so two walks go by the same tasks
    same_at :
        (list other : List TaskId) → IsNearestWalk o start goal list → IsNearestWalk o start goal other →
        (k : ℕ) → k < length list → k < length other → get_or list k start ≡ get_or other k start
    same_at list other x y zero l m = x.starts start ∙ sym (y.starts start)
    same_at list other x y (suc k) l m =
        let before = same_at list other x y k (omega arith) (omega arith) in
        let one : k + 1 ≡ suc k = omega arith in
        subst (λ n. get_or list n start ≡ get_or other n start) one
        (nearest_one (get_or other k start) (get_or list (k + 1) start) (get_or other (k + 1) start)
        (subst (λ a. IsNearest o goal a (get_or list (k + 1) start)) before (x.steps k start (omega arith)))
        (y.steps k start (omega arith)))

    -- from the goal no walk goes on
    no_more : (b : TaskId) → IsNearest o goal goal b → ⊥
    no_more b near = no_round o ok near.left goal (b, near.edge, near.walk)

    no_longer : (list other : List TaskId) → IsNearestWalk o start goal list → IsNearestWalk o start goal other → length list < length other → ⊥
    no_longer list other x y less =
        let some = x.some in
        let last : ℕ = length list - 1 in
        let here = sym (same_at list other x y last (omega arith) (omega arith)) ∙ x.ends start in
        no_more (get_or other (last + 1) start) (subst (λ a. IsNearest o goal a (get_or other (last + 1) start)) here (y.steps last start (omega arith)))

    pub one_walk : (list other : List TaskId) → IsNearestWalk o start goal list → IsNearestWalk o start goal other → list ≡ other
    one_walk list other x y =
        elim (cases_lt (length list) (length other)) [
          | inl less ↦ absurd (no_longer list other x y less)
          | inr no_less ↦ elim (cases_lt (length other) (length list)) [
            | inl more ↦ absurd (no_longer other list y x more)
            | inr no_more ↦
                let sized : length list ≡ length other = omega arith in
                ext_get_or start list other sized (λ k l. same_at list other x y k l (omega arith))
          ]
        ]

pub one_nearest_walk : OneNearestWalk
one_nearest_walk o start goal list other ok x y = one_walk o goal ok start list other x y
