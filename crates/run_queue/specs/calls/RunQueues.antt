-- Which tasks of a world have a turn in a round, and why the others have none.
use Rattle.std.specs.Prelude.{◌≡◌, ℕ, ◌<◌, ◌⊎◌, true, false, List, [], Option, Some, None, Contains, length, slice_get}
use Rattle.armus_base.specs.declared.event.Event.{Event}
use Rattle.armus_base.specs.declared.ids.TaskId.{TaskId}
use Rattle.armus_base.specs.States.{IsReached}
use Rattle.pl_core.specs.calls.Worlds.{WorldValue, action_by_code, state_of}
use Rattle.run_queue.specs.declared.run_queue.RunQueue.{RunQueue}
use Rattle.run_queue.specs.declared.wait_queue.WaitQueue.{WaitQueue}
use Rattle.run_queue.specs.declared.waiter.Waiter.{Waiter}
use Rattle.run_queue.specs.inside.ReadyTasks.{IsSet}

-- those that wait at a phaser, and nobody without one
abbrev pub waiters_from : Option WaitQueue → List Waiter
waiters_from None = []
waiters_from (Some queue) = queue.waiters.items

-- those that wait at phaser p
abbrev pub waiters_at : List WaitQueue → ℕ → List Waiter
waiters_at queues p = waiters_from (slice_get queues p)

-- task t waits for this event
abbrev pub WaitsInQueue : List WaitQueue → ℕ → Event → Type 0
WaitsInQueue queues t e = Contains (waiters_at queues e.p.0) (record { task = record { 0 = t }; phase = e.n })

-- task t has a turn in this round, unless it had it
abbrev pub HasTurnLeft : RunQueue → ℕ → Type 0
HasTurnLeft q t = IsSet q.ready.flags.items t

-- why task t has no turn
pub data HasNoTurn (w : WorldValue) (queues : List WaitQueue) (children : List TaskId) (t : ℕ) : Type 0 where
  is_unforked : (state_of w).forked t ≡ false → HasNoTurn w queues children t
  is_child : Contains children (record { 0 = t }) → HasNoTurn w queues children t
  is_done : action_by_code w t ≡ None → HasNoTurn w queues children t
  is_refused : (e : Event) → (state_of w).refused t ≡ Some e → HasNoTurn w queues children t
  is_waiting : (e : Event) → (state_of w).published t ≡ Some e → (IsReached (state_of w) e → ⊥) → WaitsInQueue queues t e → HasNoTurn w queues children t

-- In a round that began with the first world and has led to this one: who has a turn was forked in the first world, and so was who waits; who was forked since
-- has none; and each other task has none since it may not act.
pub record IsRunQueue (first w : WorldValue) (q : RunQueue) : Type 0 where
  pub plan : w.plan ≡ first.plan
  pub tasks : length q.ready.flags.items ≡ length w.plan.parents
  pub phasers : length q.waiting.items ≡ length w.plan.makers
  pub stays : (t : ℕ) → (state_of first).forked t ≡ true → (state_of w).forked t ≡ true
  pub turns : (t : ℕ) → HasTurnLeft q t → (state_of first).forked t ≡ true
  pub waits : (p : ℕ) (v : Waiter) → Contains (waiters_at q.waiting.items p) v → (v.task.0 < length w.plan.parents) × (state_of first).forked v.task.0 ≡ true
  pub children : (c : TaskId) → Contains q.children.items c → (c.0 < length w.plan.parents) × ((state_of first).forked c.0 ≡ false) × ((state_of w).forked c.0 ≡ true)
  pub others : (t : ℕ) → t < length w.plan.parents → HasTurnLeft q t ⊎ HasNoTurn w q.waiting.items q.children.items t
