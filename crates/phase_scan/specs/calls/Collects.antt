-- Collects: which loads a collect makes, in order, and the statuses that it finds.
use Rattle.std.specs.Prelude.{◌≡◌, ℕ, ◌+◌, ◌*◌, Bool, true, false, List, Option, Some, None, length, is_some}
use Rattle.std.proofs.Common.{zero, suc}
use Rattle.armus_base.specs.declared.event.Event.{Event}
use Rattle.armus_base.specs.declared.status.Status.{Status}
use Rattle.armus_base.specs.Plans.{Plan}
use Rattle.armus_base.specs.States.{Phases, State}
use Rattle.armus_base.specs.Counts.{IsCount}
use Rattle.armus_base.specs.Finals.{is_awaited, statuses_on}
use Rattle.armus_base.specs.Statuses.{IsAwaited}
use Rattle.armus_base.specs.calls.Seats.{Found, FoundIdle, FoundWaiting, FoundRefused}
use Rattle.board.specs.calls.Seats.{AnswersAwait, AnswersPhase, Known}

-- the event on which a load of an await word found its task waiting
abbrev pub waiting_on : Found → Option Event
waiting_on FoundIdle = None
waiting_on (FoundWaiting e) = Some e
waiting_on (FoundRefused e) = None

-- one load of the await word of task t, which was found waiting on this event, or on none
pub record FindsEvent (t : ℕ) (event : Option Event) (before now : Known) : Type 0 where
  pub answer : Found
  pub load : AnswersAwait t answer before now
  pub waits : event ≡ waiting_on answer

-- these loads, where they are asked for, and none elsewhere
abbrev pub IfAsked : Bool → (Known → Known → Type 0) → Known → Known → Type 0
IfAsked true Loads before now = Loads before now
IfAsked false Loads before now = now ≡ before

-- the loads of the await words of the chosen ones of the first tasks, in order, which were found waiting on these events
abbrev pub LoadsChosen : (ℕ → Bool) → (ℕ → Option Event) → ℕ → Known → Known → Type 0
LoadsChosen chosen events zero before now = now ≡ before
LoadsChosen chosen events (suc t) before now =
    (between : Known) × LoadsChosen chosen events t before between × IfAsked (chosen t) (FindsEvent t (events t)) between now

-- the same of all of the first tasks
abbrev pub LoadsAwaits : (ℕ → Option Event) → ℕ → Known → Known → Type 0
LoadsAwaits = LoadsChosen (λ t. true)

-- the loads of the phase words of task t on the asked ones of the first phasers, in order, which found these phases
abbrev pub LoadsRow : (ℕ → Bool) → ℕ → Phases → ℕ → Known → Known → Type 0
LoadsRow asked t phases zero before now = now ≡ before
LoadsRow asked t phases (suc p) before now =
    (between : Known) × LoadsRow asked t phases p before between × IfAsked (asked p) (AnswersPhase t p (phases p)) between now

-- the rows of those of the first tasks that were found waiting, in order
abbrev pub LoadsRows : ℕ → (ℕ → Bool) → State → ℕ → Known → Known → Type 0
LoadsRows phasers asked found zero before now = now ≡ before
LoadsRows phasers asked found (suc t) before now =
    (between : Known) × LoadsRows phasers asked found t before between
    × IfAsked (is_some (found.published t)) (LoadsRow asked t (found.phases t) phasers) between now

-- A collect: first it loads the await words of all tasks, in order; then, for each task found waiting, in order, its phase word on each phaser found
-- awaited, in order. What it found at different moments is written as if it were one state, and the list has its statuses.
pub record IsCollect (plan : Plan) (list : List Status) (before now : Known) : Type 0 where
  pub found : State
  pub between : Known
  pub awaits : LoadsAwaits found.published (length plan.parents) before between
  pub rows : LoadsRows (length plan.makers) (is_awaited plan found) found (length plan.parents) between now
  pub statuses : list ≡ statuses_on plan found (is_awaited plan found)

-- a task of the list awaits an event of phaser p
abbrev pub IsAwaitedPhaser : List Status → ℕ → Type 0
IsAwaitedPhaser list p = (e : Event) × IsAwaited list e × e.p.0 ≡ p

-- one load for each task, and one for each status and each of the distinct phasers that are awaited in the list
pub record CountsLoads (plan : Plan) (list : List Status) (before now : Known) : Type 0 where
  pub phasers : ℕ
  pub distinct : IsCount (IsAwaitedPhaser list) phasers
  pub loads : now.view.loads ≡ before.view.loads + (length plan.parents + length list * phasers)

-- for how many tasks and phasers cells are, and the statuses that the last collect found
pub record Collection : Type 0 where
  pub tasks : ℕ
  pub phasers : ℕ
  pub statuses : List Status
