-- What is true of each task.
use Rattle.std.specs.Prelude.{◌≡◌, ℕ, Bool, true, false, ◌+◌, ◌<◌, ◌≤◌, List, None, drop, length}
use Rattle.armus_base.specs.declared.op.Op.{Op}
use Rattle.armus_base.specs.Limits.{max_phasers}
use Rattle.armus_base.specs.Plans.{Action, actions}
use Rattle.board.specs.calls.Seats.{Frame, Known, event_of}
use Rattle.board.specs.calls.Views.{own_place, task_of}
use Rattle.board.specs.inside.Walking.{left_of}
use Rattle.board_runs.specs.declared.task.Task.TheInside.{Inside}
use Rattle.board_runs.specs.calls.Turns.{MakesActions, HasLeftAll, Working}

-- what a contract sees of a task
abbrev pub working_of : Inside → Working
working_of t = record { seat = t.seat; children = t.children.items }

-- the seat's task is not refused, and has begun all ops of its code but these
pub record AreLeft (ops : List Op) (seat : Known) : Type 0 where
  pub unrefused : (own_place seat.view).dropped ≡ None
  pub left : drop (own_place seat.view).done (actions seat.view.plan (task_of seat.view)) ≡ left_of (event_of seat) ops

-- The seat's task has made so many actions of its code; and it is refused and a member of nothing, or has begun all ops but these.
pub record HasCome (seat : Known) (ops : List Op) (count : ℕ) (refused : Bool) : Type 0 where
  pub made_is : count ≡ (own_place seat.view).done
  pub ops_are : refused ≡ false → AreLeft ops seat
  pub gone : refused ≡ true → HasLeftAll seat

-- its fields tell how far it has come, and each op that it has begun was an event
pub record IsWorking (t : Inside) : Type 0 where
  pub come : HasCome t.seat t.cursor t.actions t.refused
  pub begun : t.begun ≤ t.actions

-- a task has made so many steps, one at least: one step of its code, by which it forks one task at most, or a refusal and a drop of each of its phasers
pub record MakesSome (board : Frame) (made : ℕ) (before now : Working) : Type 0 where
  pub own : List Action
  pub acts : MakesActions board own before now
  pub counted : made ≡ length own
  pub some : 0 < made
  pub few : made ≤ max_phasers + 1
  pub within : (own_place before.seat.view).done < length (actions before.seat.view.plan (task_of before.seat.view))
  pub one_child : length acts.new ≤ 1
