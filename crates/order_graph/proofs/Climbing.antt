-- Along edges positions go up.
use Rattle.std.proofs.Common.{ℕ, zero, suc, ◌+◌, ◌≤◌, [], length, ap, subst, inl, inr, arith}
use Rattle.std.specs.Prelude.{Contains}
use Rattle.std.proofs.lemmas.Bool.{cases_lt}
use Rattle.std.proofs.lemmas.List.{get_or_past}
use Rattle.std.proofs.lemmas.List.Elements.{All-contains}
use Rattle.armus_base.specs.declared.ids.TaskId.{TaskId}
use Rattle.armus_base.specs.calls.Relations.{Walk, ReachesCycle}
use Rattle.armus_base.proofs.Elements.{nothing_in_nil}
use Rattle.dep_state.specs.calls.Picks.{Ascend}
use Rattle.order_graph.specs.calls.Orders.{OrderValue, IsEdge, IsOrder, IsTaskOf, position_of, successors_of}

-- a walk along one relation is a walk along one that holds where it does
pub walk_along : {X : Type 0} (R S : X → X → Type 0) → ((a b : X) → R a b → S a b) → (n : ℕ) (a b : X) → Walk R n a b → Walk S n a b
walk_along R S more zero a b e = e
walk_along R S more (suc n) a b (c, r, w) = (c, more a c r, walk_along R S more n c b w)

module _ (o : OrderValue) (ok : IsOrder o) where
  -- only a task has successors
  pub from_task : (a b : TaskId) → IsEdge o a b → IsTaskOf o a
  from_task a b h =
      elim (cases_lt a.0 (length o.edges)) [
        | inl l ↦ omega (arith, ok.sized)
        | inr past ↦ absurd (nothing_in_nil b (subst (λ r. Contains {X = TaskId} r b) (get_or_past o.edges a.0 [] past) h))
      ]

  pub row_ascends : (a : TaskId) → IsTaskOf o a → Ascend (successors_of o a)
  row_ascends a lt = ok.ascend a.0 [] (omega (arith, ok.sized))

  pub to_task : (a b : TaskId) → IsEdge o a b → IsTaskOf o b
  to_task a b h = All-contains (IsTaskOf o) (successors_of o a) b (ok.are_tasks a.0 [] (omega (arith, ok.sized, from_task a b h))) h

  -- a walk of n edges goes up by n positions at least
  pub climbs : (n : ℕ) (a b : TaskId) → Walk (IsEdge o) n a b → position_of o a + n ≤ position_of o b
  climbs zero a b e = omega (arith, ap (position_of o) e)
  climbs (suc n) a b (c, h, w) = omega (arith, ok.forward a c h, climbs n c b w)

  -- so no walk comes back
  pub no_round : (n : ℕ) (a : TaskId) → Walk (IsEdge o) (suc n) a a → ⊥
  no_round n a w = omega (arith, climbs (suc n) a a w)

  -- and nobody reaches a cycle
  pub no_cycle : (a : TaskId) → ReachesCycle (IsEdge o) a → ⊥
  no_cycle a h = no_round h.more h.node h.cycle
