-- The seats of a run's tasks: whoever is forked by one of them has one too.
use Rattle.std.specs.Prelude.{false, slice_get, ◌≡◌, ◌≢◌, ℕ, ◌+◌, ◌-◌, ◌<◌, ◌≤◌, ◌⊎◌, true, List, [], ◌++◌, Some, All, Contains, is_some, length, sum_by, ◌==◌, if◌then◌else◌}
use Rattle.std.proofs.Common.{zero, suc}
use Rattle.armus_base.specs.Plans.{Plan, Forks, action_at, actions}
use Rattle.armus_base.specs.calls.Seats.{SeenBy}
use Rattle.board.specs.calls.Views.{own_place, seen, task_of}
use Rattle.board.specs.calls.Seats.{Frame, IsOf, IsSeat, Known}
use Rattle.pl_core.specs.declared.place.Place.{Place as KeptPlace}
use Rattle.board_runs.specs.calls.Turns.{ActsNoMore, Working, standing_of}

-- task 0 is exact, and so is each task that an exact one forks before its place
pub record IsClosed (plan : Plan) (seen : SeenBy) : Type 0 where
  pub root : seen.exact 0 ≡ true
  pub forked : (t j c : ℕ) → seen.exact t ≡ true → j < (seen.places t).done → action_at plan t j ≡ Some (Forks c) → seen.exact c ≡ true

-- a seat of this board without the lock, of a task that alone is exact, and that has done no more actions than it has
pub record IsTaskSeat (board : Frame) (seat : Known) : Type 0 where
  pub of_board : IsOf seat board
  pub kept : IsSeat seat
  pub free : seat.view.holds ≡ false
  pub task : ℕ
  pub own : seat.view.own ≡ Some task
  pub alone : (u : ℕ) → (seen seat.view).exact u ≡ true → u ≡ task
  pub within : (own_place seat.view).done ≤ length (actions board.plan (task_of seat.view))

-- one of these seats is that of task c
abbrev pub HasSeatOf : (Known → Type 0) → ℕ → Type 0
HasSeatOf Seats c = (seat : Known) × Seats seat × seat.view.own ≡ Some c

-- these seats are such, one is that of task 0, and whoever is forked before the place of one of them has one too
pub record AreTaskSeats (board : Frame) (Seats : Known → Type 0) : Type 0 where
  pub each : (seat : Known) → Seats seat → IsTaskSeat board seat
  pub root : HasSeatOf Seats 0
  pub forked :
      (seat : Known) → Seats seat → (j c : ℕ) → j < (own_place seat.view).done → action_at board.plan (task_of seat.view) j ≡ Some (Forks c) →
      HasSeatOf Seats c

-- the seat of one of these tasks
abbrev pub IsSeatIn : List Working → Known → Type 0
IsSeatIn tasks seat = (task : Working) × Contains tasks task × seat ≡ task.seat

-- the number of a task
abbrev pub own_number : Working → ℕ
own_number task = task_of task.seat.view

-- how many actions of its code a task has done
abbrev pub done_of : Working → ℕ
done_of task = (own_place task.seat.view).done

-- how many of these tasks have number t
abbrev pub how_many : ℕ → List Working → ℕ
how_many t tasks = sum_by (λ task. if own_number task == t then 1 else 0) tasks

-- one of the actions of task t from index `from` up to `to` forks task c
abbrev pub IsForkedWithin : Plan → ℕ → ℕ → ℕ → ℕ → Type 0
IsForkedWithin plan t from to c = (j : ℕ) × from ≤ j × j < to × action_at plan t j ≡ Some (Forks c)

-- one of these tasks has forked task c
abbrev pub IsForkedBy : Plan → List Working → ℕ → Type 0
IsForkedBy plan tasks c = (m : Working) × Contains tasks m × IsForkedWithin plan (own_number m) 0 (done_of m) c

-- These are the tasks of a run on this board: task 0, and whoever was forked by one of them, each once. None has the seat of a child.
pub record AreTaskSeatsOf (board : Frame) (tasks : List Working) : Type 0 where
  pub board_tasks : AreTaskSeats board (IsSeatIn tasks)
  pub no_child : All (λ task. task.children ≡ []) tasks
  pub once : (t : ℕ) → how_many t tasks ≤ 1
  pub origin : (task : Working) → Contains tasks task → (own_number task ≡ 0) ⊎ IsForkedBy board.plan tasks (own_number task)

-- how far a task has come: the actions that it has done, and one more where it is refused
abbrev pub progress_of : Working → ℕ
progress_of task = done_of task + (if is_some (own_place task.seat.view).dropped then 1 else 0)

-- the sum of a function over the numbers below n
abbrev pub sum_below : (ℕ → ℕ) → ℕ → ℕ
sum_below f zero = 0
sum_below f (suc n) = sum_below f n + f n

-- how far all tasks of a plan may come
abbrev pub all_steps : Plan → ℕ
all_steps plan = sum_below (λ t. length (actions plan t) + 1) (length plan.parents)

-- the tasks that live, and those that have ended
pub record Tasks : Type 0 where
  pub live : List Working
  pub ended : List Working

-- all of them
abbrev pub all_of : Tasks → List Working
all_of tasks = tasks.live ++ tasks.ended

-- they are those of a run, and the ended ones act no more
pub record AreTasksOf (board : Frame) (tasks : Tasks) : Type 0 where
  pub all : AreTaskSeatsOf board (all_of tasks)
  pub ended : All (λ task. ActsNoMore task.seat) tasks.ended

-- how much is left to these tasks of a plan
abbrev pub left_to : Plan → Tasks → ℕ
left_to plan tasks = all_steps plan - sum_by progress_of (all_of tasks)

-- the place of each task of the plan that is one of these, and the first place of each other
pub record ArePlacesOf (plan : Plan) (tasks : List Working) (places : List KeptPlace) : Type 0 where
  pub one_each : length places ≡ length plan.parents
  pub each :
      (t : ℕ) → t < length plan.parents →
      ((task : Working) × Contains tasks task × own_number task ≡ t × slice_get places t ≡ Some (standing_of task.seat))
      ⊎ (((task : Working) → Contains tasks task → own_number task ≢ t) × slice_get places t ≡ Some (record { events = 0; refused = false }))

-- A viewer knows just these tasks exactly, and sees them where their seats stood. Whoever one of them forks is among them.
pub record KnowsTasks (board : Frame) (tasks : List Working) (view : Known) : Type 0 where
  pub closed : IsClosed board.plan (seen view.view)
  pub here :
      (task : Working) → Contains tasks task →
      (seen view.view).exact (own_number task) ≡ true × (seen view.view).places (own_number task) ≡ own_place task.seat.view
  pub only : (u : ℕ) → (seen view.view).exact u ≡ true → (task : Working) × Contains tasks task × own_number task ≡ u
