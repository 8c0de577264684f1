-- The lock of a board that avoids deadlock: what it makes of a seat that it is taken, found taken or freed, and that a task is refused.
use Rattle.std.specs.Prelude.{◌≡◌, ◌≢◌, ℕ, ◌+◌, ◌<◌, Bool, true, false, [], Option, Some, length}
use Rattle.atomic_table.specs.Table.{Step}
use Rattle.armus_base.specs.Plans.{Aim, Plan, Blocks, Refuses}
use Rattle.armus_base.specs.Runs.{Place}
use Rattle.armus_base.specs.calls.Boards.{IsLawful}
use Rattle.armus_base.specs.calls.Seats.{SeenBy, IsAsFarOn, HasLockWith, IsSeenAfterBusy, MayHold, AvoidsByWhatIsSeen}
use Rattle.board.specs.declared.mode.Mode.{Mode}
use Rattle.board.specs.declared.view.View.{View}
use Rattle.board.specs.calls.Views.{avoids, next_action, seen, task_of}
use Rattle.board.specs.calls.Steps.{IsSameSeat, TableSeat, WasSo, after_action}
use Rattle.board.specs.calls.Seats.{Known, IsSeat}

-- the view of a seat that has taken the lock, or freed it: nothing is found yet
abbrev pub with_lock : Bool → View → View
with_lock held v = record v { sight = record v.sight { found = [] }; holds = held }

-- some lawful state has the lock with the seat of task t, and is as far on as what it has seen
pub record IsWithLock (plan : Plan) (t : ℕ) (seen : SeenBy) : Type 0 where
  pub places : ℕ → Place
  pub lock : Option ℕ
  pub lawful : IsLawful true plan places lock
  pub with_seat : HasLockWith plan t places lock seen
  pub far : IsAsFarOn plan (Some t) places seen

-- task h held the lock in some lawful state, which is as far on as what was seen before and as what is seen now
pub record WasHeld (plan : Plan) (mode : Mode) (h : ℕ) (before now : View) : Type 0 where
  pub was : WasSo plan mode (λ s. Unit {0}) before now
  pub held : was.lock ≡ Some h

-- one try for the lock that found it held by task h, which is another one: it counts as a load, teaches a place of h, and changes nothing else
pub record MeetsHolder (plan : Plan) (mode : Mode) (h : ℕ) (before now : View) : Type 0 where
  pub within : h < length plan.parents
  pub other : before.own ≢ Some h
  pub seen_now : IsSeenAfterBusy plan h (seen before) (seen now)
  pub was : WasHeld plan mode h before now
  pub there : MayHold plan h ((seen now).places h)
  pub same : IsSameSeat before now
  pub loads : now.loads ≡ before.loads + 1

-- a try for the lock: it was taken, or found taken
abbrev pub Tried : Step (Unit {0}) → TableSeat → ℕ → TableSeat → Type 0
Tried step before n now =
    now.1 ≡ before.1
    × (n ≡ 0 → now.0 ≡ with_lock true before.0 × IsWithLock before.0.plan (task_of before.0) (seen now.0))
    × (n ≢ 0 → (h : ℕ) × n ≡ h + 1 × MeetsHolder before.0.plan before.0.mode h before.0 now.0)

-- the lock was freed
abbrev pub Freed : Step (Unit {0}) → TableSeat → ℕ → TableSeat → Type 0
Freed step before n now = now.0 ≡ with_lock false before.0 × now.1 ≡ before.1

-- the await that comes next was published, by a holder of the lock on a board that avoids deadlock
abbrev pub Published : Step (Unit {0}) → TableSeat → ℕ → TableSeat → Type 0
Published step before n now =
    now.1 ≡ before.1
    × ((aim : Aim) → next_action before.0 ≡ Some (Blocks aim) → now.0 ≡ after_action (Blocks aim) before.0)
    × (avoids before.0.mode ≡ true → IsWithLock before.0.plan (task_of before.0) (seen before.0))

-- the await that comes next was refused
abbrev pub Refused : Step (Unit {0}) → TableSeat → ℕ → TableSeat → Type 0
Refused step before n now =
    now.1 ≡ before.1
    × ((aim : Aim) → next_action before.0 ≡ Some (Blocks aim) → now.0 ≡ after_action (Refuses aim) before.0)
    × IsWithLock before.0.plan (task_of before.0) (seen before.0)

-- the seat stands before an await that is not published
abbrev pub IsBeforeAwait : Known → Type 0
IsBeforeAwait seat = (aim : Aim) × next_action seat.view ≡ Some (Blocks aim)

-- the seat has taken the lock, and nothing else is another
pub record TakesLock (before now : Known) : Type 0 where
  pub view : now.view ≡ with_lock true before.view
  pub was : IsWithLock before.view.plan (task_of before.view) (seen now.view)
  pub table : now.table ≡ before.table
  pub kept : IsSeat now

-- task h held the lock
pub record FindsHeld (h : ℕ) (before now : Known) : Type 0 where
  pub meets : MeetsHolder before.view.plan before.view.mode h before.view now.view
  pub table : now.table ≡ before.table
  pub kept : IsSeat now

-- the seat has freed the lock, and nothing else is another
pub record FreesLock (before now : Known) : Type 0 where
  pub view : now.view ≡ with_lock false before.view
  pub table : now.table ≡ before.table
  pub kept : IsSeat now

-- the seat may refuse an await with this aim: in each state that it may be in with the lock its task would be dead
abbrev pub MayRefuse : Known → Aim → Type 0
MayRefuse seat aim = AvoidsByWhatIsSeen seat.view.plan (task_of seat.view) (seen seat.view) (Refuses aim)
