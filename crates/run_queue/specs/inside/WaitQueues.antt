-- Those that wait at one phaser.
use Rattle.std.specs.Prelude.{◌≡◌, ℕ, ◌+◌, ◌≤◌, ◌⊎◌, List, AllPairs, Contains, length}
use Rattle.armus_base.specs.declared.ids.TaskId.{TaskId}
use Rattle.armus_base.specs.States.{State, IsReached, event_at}
use Rattle.run_queue.specs.declared.waiter.Waiter.{Waiter}

-- those that wait for a later phase stand ahead of the others
abbrev pub LaterFirst : List Waiter → Type 0
LaterFirst = AllPairs (λ a b. b.phase ≤ a.phase)

-- the phase for which one waits at phaser p is not reached
abbrev pub IsUnreached : State → ℕ → Waiter → Type 0
IsUnreached s p w = IsReached s (event_at p w.phase) → ⊥

-- one that waited, this task, is no more among those that wait, and all others are
pub record TakesOut (old new : List Waiter) (t : TaskId) : Type 0 where
  pub less : length old ≡ length new + 1
  pub stays : (w : Waiter) → Contains old w → Contains new w ⊎ (w.task ≡ t)
  pub fewer : (w : Waiter) → Contains new w → Contains old w
  pub one : (w : Waiter) × Contains old w × (w.task ≡ t)
