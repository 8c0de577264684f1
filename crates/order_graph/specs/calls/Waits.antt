-- Who waits for whom, by sets of tasks that several tasks may share.
use Rattle.std.specs.Prelude.{◌≡◌, ◌<◌, ℕ, List, [], length, All, Contains, slice_index, slice_index_or}
use Rattle.armus_base.specs.declared.ids.TaskId.{TaskId}
use Rattle.order_graph.specs.declared.waits.Waits.{Waits}

-- the set that is task a's own
abbrev pub own_set : Waits → TaskId → List TaskId
own_set w a = slice_index_or w.sets.items (slice_index w.own.items a.0) []

-- task b is in task a's own set
abbrev pub Awaits : Waits → TaskId → TaskId → Type 0
Awaits w a b = (a.0 < length w.own.items) × Contains (own_set w a) b

-- each of so many tasks has a set of its own, and in the sets are no others
pub record AreWaitsAmong (tasks : ℕ) (w : Waits) : Type 0 where
  pub sized : length w.own.items ≡ tasks
  pub own_inside : All (λ i. i < length w.sets.items) w.own.items
  pub tasks_inside : All (All (λ t. t.0 < tasks)) w.sets.items
