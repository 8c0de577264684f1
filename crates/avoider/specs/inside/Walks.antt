-- Walks over the tasks of a list of statuses that may be dead.
use Rattle.std.specs.Prelude.{◌≡◌, ℕ, ◌<◌, Bool, true, false, List, Contains, length, slice_index_or}
use Rattle.armus_base.specs.Deadlocks.{IsDeadBy}
use Rattle.armus_base.specs.Graphs.{WaitsFor}
use Rattle.armus_base.specs.States.{State}
use Rattle.armus_base.specs.declared.event.Event.{Event}
use Rattle.armus_base.specs.declared.ids.TaskId.{TaskId}
use Rattle.armus_base.specs.declared.status.Status.{Status}
use Rattle.armus_base.proofs.WalkCycles.{IsWalkTo}
use Rattle.pl_core.specs.calls.HighestPhases.{IsPublishedImpeder}
use Rattle.avoider.specs.declared.walking.ImpederWalk.{ImpederWalk}

-- no task below the number is dead by the statuses
abbrev pub IsUnder : List Status → ℕ → Type 0
IsUnder ss n = (u : ℕ) → u < n → IsDeadBy ss u → ⊥

-- there is a mark for each task, and who is marked is not dead
pub record AreAlive (ss : List Status) (tasks : ℕ) (alive : List Bool) : Type 0 where
  pub sized : length alive ≡ tasks
  pub each : (u : ℕ) → slice_index_or alive u false ≡ true → IsDeadBy ss u → ⊥

-- each task below the number that is published and impedes the event is marked
abbrev pub ArePassed : State → Event → List Bool → ℕ → Type 0
ArePassed s e alive n = (u : ℕ) → u < n → IsPublishedImpeder s e u → slice_index_or alive u false ≡ true

-- a waits for b, and for nobody less who is dead
pub record GoesTo (ss : List Status) (a b : TaskId) : Type 0 where
  pub waits : WaitsFor ss a b
  pub least : (v : TaskId) → v.0 < b.0 → WaitsFor ss a v → IsDeadBy ss v.0 → ⊥

-- the task has a status
abbrev pub IsAwaiting : List Status → TaskId → Type 0
IsAwaiting ss u = (s : Status) × Contains ss s × (s.t ≡ u)

-- the walk began at a task below which nobody is dead
pub record IsOnItsWay (ss : List Status) (tasks : ℕ) (w : ImpederWalk) : Type 0 where
  pub alive : AreAlive ss tasks w.alive.items
  pub start : TaskId
  pub least : IsUnder ss start.0
  pub walk : IsWalkTo (GoesTo ss) start w.path.items w.at
  pub inside : w.at.0 < tasks
