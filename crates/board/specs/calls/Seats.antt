-- What contracts see of a board and of its seats, and what the calls make of a seat.
use Rattle.std.specs.Prelude.{◌≡◌, ℕ, ◌<◌, ◌≤◌, true, false, Option, Some, None, length, IsSome}
use Rattle.atomic_table.specs.Seated.{TableId}
use Rattle.armus_base.specs.declared.event.Event.{Event}
use Rattle.armus_base.specs.declared.offset.Offset.{Offset}
use Rattle.armus_base.specs.Plans.{Aim, Plan, Action, Blocks, Drops, Passes}
use Rattle.armus_base.specs.Runs.{first_place}
use Rattle.armus_base.specs.CheckedPlans.{IsCheckedPlan}
use Rattle.armus_base.specs.calls.Seats.{Found, SeenBy, AvoidsByWhatIsSeen, IsSeenAfterTakingIn, own_event, seen_after_step}
use Rattle.board.specs.declared.mode.Mode.{Mode}
use Rattle.board.specs.declared.view.View.{View}
use Rattle.board.specs.calls.Views.{avoids, next_action, own_place, seen, task_of}
use Rattle.board.specs.calls.Steps.{IsSameSeat, LoadsAwait, LoadsPhase, own_phase}

-- which board it is, its plan, and what it is for
pub record Frame : Type 0 where
  pub table : TableId
  pub plan : Plan
  pub mode : Mode

-- of which board a seat is, and what it knows
pub record Known : Type 0 where
  pub table : TableId
  pub view : View

-- the seat was made by this board
pub record IsOf (seat : Known) (board : Frame) : Type 0 where
  pub table : seat.table ≡ board.table
  pub plan : seat.view.plan ≡ board.plan
  pub mode : seat.view.mode ≡ board.mode

-- what every seat keeps: it is not taken in, its plan is checked, it knows a place of each task, and that of its own task exactly, has scanned tasks of the plan alone, and has the lock only on a board that avoids deadlock
pub record IsSeat (seat : Known) : Type 0 where
  pub live : seat.view.spent ≡ false
  pub checked : IsCheckedPlan seat.view.plan
  pub count : length seat.view.sight.places ≡ length seat.view.plan.parents
  pub few : (seen seat.view).scanned ≤ length seat.view.plan.parents
  pub own : (t : ℕ) → seat.view.own ≡ Some t → (t < length seat.view.plan.parents) × ((seen seat.view).exact t ≡ true)
  pub lock : seat.view.holds ≡ true → avoids seat.view.mode ≡ true

-- the event on which the seat's own task is published
abbrev pub event_of : Known → Option Event
event_of seat = own_event seat.view.plan seat.view.own (seen seat.view)

-- nothing is seen of any task
abbrev pub nothing_seen : SeenBy
nothing_seen = record { places = λ _. first_place; exact = λ _. false; scanned = 0; found = λ _. None }

-- a new seat: of this task or a viewer's, it has seen this, does not hold the lock, and has loaded nothing
pub record IsNewSeat (board : Frame) (own : Option ℕ) (what : SeenBy) (seat : Known) : Type 0 where
  pub of_board : IsOf seat board
  pub own_is : seat.view.own ≡ own
  pub seen_is : seen seat.view ≡ what
  pub free : seat.view.holds ≡ false
  pub loads : seat.view.loads ≡ 0
  pub kept : IsSeat seat

-- the seat's task makes this step: that is seen now, and nothing else is another
pub record MakesStep (x : Action) (before now : Known) : Type 0 where
  pub seen_now : seen now.view ≡ seen_after_step (task_of before.view) x (seen before.view)
  pub same : IsSameSeat before.view now.view
  pub loads : now.view.loads ≡ before.view.loads
  pub table : now.table ≡ before.table
  pub kept : IsSeat now

-- the published event is withdrawn
abbrev pub MakesPass : Known → Known → Type 0
MakesPass before now = (e : Event) → event_of before ≡ Some e → MakesStep (Passes e.p.0) before now

-- the aim of an await of phaser p with this offset
abbrev pub aim_at : ℕ → Offset → Aim
aim_at p off = record { phaser = p; off = off }

-- the seat may publish an await with this aim: on a board that avoids deadlock it has the lock, and deadlock is avoided in each state that it may be in
abbrev pub MayPublish : Known → Aim → Type 0
MayPublish seat aim =
    avoids seat.view.mode ≡ true →
    (seat.view.holds ≡ true) × AvoidsByWhatIsSeen seat.view.plan (task_of seat.view) (seen seat.view) (Blocks aim)

-- the seat may leave p: this comes next by its code, or it is refused and p is the least phaser of which it is a member
pub data MayDrop (seat : Known) (p : ℕ) : Type 0 where
  by_code : next_action seat.view ≡ Some (Drops p) → MayDrop seat p
  refused : IsSome (own_place seat.view).dropped → IsSome (own_phase seat.view p) → ((q : ℕ) → q < p → own_phase seat.view q ≡ None) → MayDrop seat p

-- one load of the await word of t
pub record AnswersAwait (t : ℕ) (answer : Found) (before now : Known) : Type 0 where
  pub load : LoadsAwait before.view.plan before.view.mode t answer before.view now.view
  pub table : now.table ≡ before.table
  pub kept : IsSeat now

-- one load of the phase word of t on p
pub record AnswersPhase (t p : ℕ) (answer : Option ℕ) (before now : Known) : Type 0 where
  pub load : LoadsPhase before.view.plan before.view.mode t p answer before.view now.view
  pub table : now.table ≡ before.table
  pub kept : IsSeat now

-- a viewer takes in the seat of a task: it sees that task where its seat has it, and each task that it knew exactly where it saw it before
pub record TakesIn (seat before now : Known) : Type 0 where
  pub seen_now : IsSeenAfterTakingIn (task_of seat.view) (seen before.view) (seen seat.view) (seen now.view)
  pub own : (seen now.view).places (task_of seat.view) ≡ (seen seat.view).places (task_of seat.view)
  pub stays : (u : ℕ) → (seen before.view).exact u ≡ true → (seen now.view).places u ≡ (seen before.view).places u
  pub same : IsSameSeat before.view now.view
  pub loads : now.view.loads ≡ before.view.loads
  pub table : now.table ≡ before.table
  pub kept : IsSeat now
