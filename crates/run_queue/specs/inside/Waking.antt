-- Tasks that wait are given a turn.
use Rattle.std.specs.Prelude.{◌≡◌, ℕ, ◌<◌, ◌⊎◌, Contains, length}
use Rattle.armus_base.specs.declared.ids.TaskId.{TaskId}
use Rattle.armus_base.specs.States.{State}
use Rattle.run_queue.specs.declared.run_queue.RunQueue.{RunQueue}
use Rattle.run_queue.specs.declared.waiter.Waiter.{Waiter}
use Rattle.run_queue.specs.calls.RunQueues.{HasTurnLeft, waiters_at}
use Rattle.run_queue.specs.inside.WaitQueues.{IsUnreached}

-- no task that waits at phaser p waits for an event that is reached
abbrev pub AreUnreached : State → RunQueue → ℕ → Type 0
AreUnreached s q p = (v : Waiter) → Contains (waiters_at q.waiting.items p) v → IsUnreached s p v

-- some tasks that waited have a turn, and nothing else has changed
pub record Wakes (old new : RunQueue) : Type 0 where
  pub tasks : length new.ready.flags.items ≡ length old.ready.flags.items
  pub phasers : length new.waiting.items ≡ length old.waiting.items
  pub children : new.children.items ≡ old.children.items
  pub ready : (t : ℕ) → HasTurnLeft old t → HasTurnLeft new t
  pub turns : (t : ℕ) → HasTurnLeft new t → HasTurnLeft old t ⊎ ((p : ℕ) × (v : Waiter) × Contains (waiters_at old.waiting.items p) v × (v.task.0 ≡ t))
  pub stays :
      (p : ℕ) (v : Waiter) → v.task.0 < length old.ready.flags.items → Contains (waiters_at old.waiting.items p) v →
      Contains (waiters_at new.waiting.items p) v ⊎ HasTurnLeft new v.task.0
  pub fewer : (p : ℕ) (v : Waiter) → Contains (waiters_at new.waiting.items p) v → Contains (waiters_at old.waiting.items p) v

-- some of the children have a turn, and the others are left
pub record GivesTurns (old new : RunQueue) : Type 0 where
  pub waiting : new.waiting ≡ old.waiting
  pub tasks : length new.ready.flags.items ≡ length old.ready.flags.items
  pub ready : (t : ℕ) → HasTurnLeft old t → HasTurnLeft new t
  pub turns : (t : ℕ) → HasTurnLeft new t → HasTurnLeft old t ⊎ Contains old.children.items (record { 0 = t })
  pub left : (c : TaskId) → c.0 < length old.ready.flags.items → Contains old.children.items c → HasTurnLeft new c.0 ⊎ Contains new.children.items c
  pub fewer : (c : TaskId) → Contains new.children.items c → Contains old.children.items c
