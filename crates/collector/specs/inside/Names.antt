-- Which dead tasks are fresh.
use Rattle.std.specs.Prelude.{◌≡◌, Bool, List, All, map, not}
use Rattle.std.specs.List.{filter}
use Rattle.armus_base.specs.declared.ids.TaskId.{TaskId}
use Rattle.armus_base.specs.declared.status.Dead.{Dead}
use Rattle.armus_base.specs.declared.status.Status.{Status}
use Rattle.armus_base.specs.Deadlocks.{IsListedOn}
use Rattle.collector.specs.calls.Passes.{was_named}

-- the dead tasks that are not named, in order, each with its event in the list
pub record AreFresh (names : List Bool) (list : List Status) (dead : List TaskId) (fresh : List Dead) : Type 0 where
  pub tasks : map (λ d. d.t) fresh ≡ filter (λ t. not (was_named names t.0)) dead
  pub events : All (λ d. IsListedOn list d.t.0 d.event) fresh
