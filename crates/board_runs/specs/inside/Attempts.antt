-- What comes of an attempt to decide on an await, on a board that avoids deadlock.
use Rattle.std.specs.Prelude.{◌≡◌, ℕ, ◌<◌, List, [], ◌∷◌, ◌++◌, Some, false, true, is_some, if◌then◌else◌, length}
use Rattle.std.proofs.Common.{zero, suc}
use Rattle.armus_base.specs.declared.op.Op.{Op}
use Rattle.armus_base.specs.declared.op.Op.TheVariants.{Await}
use Rattle.armus_base.specs.Places.{members_below}
use Rattle.armus_base.specs.Plans.{Aim, Action, Blocks, Drops, Plan, Refuses}
use Rattle.armus_base.specs.States.{Phases}
use Rattle.board.specs.calls.Seats.{Frame, IsOf, Known, aim_at}
use Rattle.board.specs.calls.Steps.{own_phase}
use Rattle.board.specs.calls.Views.{avoids, next_action}
use Rattle.board.specs.inside.Walking.{IsActionOfPlan, begins}
use Rattle.board_runs.specs.declared.beginning.Attempt.{Attempt}
use Rattle.board_runs.specs.declared.beginning.Attempt.TheVariants.{Begun, LockedOut, Refused}
use Rattle.board_runs.specs.calls.Turns.{EndsTurn, Goes, HasLeftAll}

-- the seat is one of the board, its task stands before this op, and does not hold the lock
pub record MayBegin (board : Frame) (op : Op) (seat : Known) : Type 0 where
  pub made : IsOf seat board
  pub unlocked : seat.view.holds ≡ false
  pub next : next_action seat.view ≡ Some (begins op)
  pub plan : IsActionOfPlan board.plan (begins op)

-- the seat is one of a board that avoids deadlock, its task stands before an await with this aim, and does not hold the lock
pub record MayDecide (board : Frame) (aim : Aim) (seat : Known) : Type 0 where
  pub made : IsOf seat board
  pub avoids : avoids board.mode ≡ true
  pub unlocked : seat.view.holds ≡ false
  pub next : next_action seat.view ≡ Some (Blocks aim)
  pub phaser : aim.phaser < length board.plan.makers

-- the drops of those of the first phasers of which a task with these phases is a member, in order of number
abbrev pub drops_below : Phases → ℕ → List Action
drops_below phases zero = []
drops_below phases (suc p) = drops_below phases p ++ (if is_some (phases p) then Drops p ∷ [] else [])

-- the seat's task was refused at its await with this aim, and has left all its phasers, so many
pub record IsRefusedAt (aim : Aim) (drops : ℕ) (before now : Known) : Type 0 where
  pub goes : Goes (Refuses aim ∷ drops_below (own_phase before.view) (length before.view.plan.makers)) before now
  pub left : HasLeftAll now
  pub counted : drops ≡ members_below (own_phase before.view) (length before.view.plan.makers)

-- What came of an attempt at the await with this aim that comes next: the lock was found taken, and the turn is over; or it was published; or it was refused.
abbrev pub IsAttempt : Aim → Known → Known → Attempt → Type 0
IsAttempt aim before now LockedOut = Goes [] before now × EndsTurn before now
IsAttempt aim before now Begun = Goes (Blocks aim ∷ []) before now
IsAttempt aim before now (Refused drops) = IsRefusedAt aim drops before now

-- how many loads an attempt makes at least: one try that finds the lock taken, or those of the await words of a collect
abbrev pub loads_at_least : Plan → Attempt → ℕ
loads_at_least plan LockedOut = 1
loads_at_least plan Begun = length plan.parents
loads_at_least plan (Refused drops) = length plan.parents

-- what came of an op that was to begin: the same of an await, and every other one has begun
abbrev pub BeginsOp : Op → Known → Known → Attempt → Type 0
BeginsOp (Await p off) before now tried = IsAttempt (aim_at p.0 off) before now tried
BeginsOp op before now Begun = Goes (begins op ∷ []) before now
BeginsOp op before now tried = ⊥
