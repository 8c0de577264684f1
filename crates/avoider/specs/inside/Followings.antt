-- What an order tells of a list of statuses that it has followed.
use Rattle.std.specs.Prelude.{ℕ, ◌⊎◌, List, Option, None, Some}
use Rattle.armus_base.specs.declared.status.Status.{Status}
use Rattle.armus_base.specs.Deadlocks.{IsDeadBy}
use Rattle.order_graph.specs.calls.Orders.{OrderValue}
use Rattle.verdict.specs.declared.found.Cycle.{Cycle}
use Rattle.avoider.specs.calls.Kept.{HoldsPairs}

-- where no cycle was found, the edges are the pairs, or another task is dead by the statuses
abbrev pub HoldsOrOtherDead : List Status → OrderValue → OrderValue → Option Cycle → Type 0
HoldsOrOtherDead ss old new None = HoldsPairs ss old new ⊎ ((u : ℕ) × IsDeadBy ss u)
HoldsOrOtherDead ss old new (Some c) = Unit {0}
