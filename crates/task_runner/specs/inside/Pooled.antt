-- The tasks of a run without rounds, and the workers that take them from a pool.
use Rattle.std.specs.Prelude.{◌≡◌, ℕ, ◌<◌, Bool, true, List, [], Some, All, Contains, length, slice_get}
use Rattle.armus_base.specs.calls.CheckedPlans.{first_plan}
use Rattle.armus_base.specs.declared.op.Op.{Op}
use Rattle.armus_base.specs.Plans.{Plan, Forks, action_at, actions_of}
use Rattle.board.specs.declared.mode.Mode.TheVariants.{Detect}
use Rattle.board.specs.calls.Seats.{Frame, Known}
use Rattle.board_runs.specs.calls.Turns.{IsChildSeat, Working}
use Rattle.board_runs.specs.calls.TaskSeats.{IsTaskSeat, done_of, own_number}
use Rattle.slot_pool.specs.calls.PoolValues.{WorkerValue, IsNumberOf, IsOfPool, IsSameWorker, PoolValue}

-- a board of the first plan
abbrev pub first_board : Frame
first_board =
    record {
      table = record { words = 0; slots = 0; views_name = 0; atom = 0; block = 0; offset = 0; slot_names = [] };
      plan = first_plan;
      mode = Detect;
    }

-- a task of a run on this board: its seat is one of those, and it has no child's seat
pub record IsPooled (board : Frame) (task : Working) : Type 0 where
  pub seat : IsTaskSeat board task.seat
  pub no_child : task.children ≡ []

-- the seat of a task that was just forked on this board
abbrev pub IsForked : Frame → Known → Type 0
IsForked board seat = (c : ℕ) × IsChildSeat board c seat

-- the worker is one of this pool of all tasks of the plan of this board, and has no task
pub record IsIdleWorker (board : Frame) (pool : PoolValue) (worker : WorkerValue) : Type 0 where
  pub tasks : pool.tasks ≡ length board.plan.parents
  pub made : IsOfPool worker pool
  pub idle : worker.view.has ≡ []

-- it is the same worker, and has what it had
pub record KeepsWhatItHas (before now : WorkerValue) : Type 0 where
  pub same : IsSameWorker before now
  pub has : now.view.has ≡ before.view.has

-- these are all workers of the pool, and none of them has a task
pub record AreAllWorkers (pool : PoolValue) (workers : List WorkerValue) : Type 0 where
  pub made : All (λ w. IsOfPool w pool) workers
  pub each : (k : ℕ) → k < pool.workers → IsNumberOf workers k
  pub idle : All (λ w. w.view.has ≡ []) workers

-- one of these tasks has number t
abbrev pub ContainsTask : List Working → ℕ → Type 0
ContainsTask tasks t = (task : Working) × Contains tasks task × own_number task ≡ t

-- Task 0 is one of these tasks, and each task that one of them has forked is.
pub record AreClosedUnderForks (plan : Plan) (tasks : List Working) : Type 0 where
  pub root : ContainsTask tasks 0
  pub forked :
      (task : Working) → Contains tasks task → (j c : ℕ) → j < done_of task → action_at plan (own_number task) j ≡ Some (Forks c) → ContainsTask tasks c

-- each task that is forked among the first actions of this code, so many, is marked
abbrev pub AreForksMarked : List Op → ℕ → List Bool → Type 0
AreForksMarked code done marks = (j c : ℕ) → j < done → slice_get (actions_of code) j ≡ Some (Forks c) → slice_get marks c ≡ Some true
