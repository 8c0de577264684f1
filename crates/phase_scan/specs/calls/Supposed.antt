-- What is found of a task that would publish an event: the statuses of a collect, with its own and with phases on the event's phaser.
use Rattle.std.specs.Prelude.{◌≡◌, ℕ, Bool, true, List, Option, None, length, is_some, if◌then◌else◌}
use Rattle.std.proofs.Common.{zero, suc}
use Rattle.armus_base.specs.declared.event.Event.{Event}
use Rattle.armus_base.specs.declared.status.Status.{Status}
use Rattle.armus_base.specs.Plans.{Plan}
use Rattle.armus_base.specs.States.{State, updated}
use Rattle.armus_base.specs.Finals.{is_awaited, statuses_on}
use Rattle.board.specs.calls.Seats.{AnswersPhase, Known}
use Rattle.board.specs.calls.Steps.{own_phase}
use Rattle.board.specs.calls.Views.{task_of}
use Rattle.phase_scan.specs.calls.Collects.{IfAsked}
use Rattle.phase_scan.specs.calls.Tables.{state_supposed}

-- the loads of the phase words on p of those of the first tasks that were found waiting, in order, which found these phases
abbrev pub LoadsColumn : (ℕ → Option Event) → ℕ → (ℕ → Option ℕ) → ℕ → Known → Known → Type 0
LoadsColumn events p column zero before now = now ≡ before
LoadsColumn events p column (suc t) before now =
    (between : Known) × LoadsColumn events p column t before between × IfAsked (is_some (events t)) (AnswersPhase t p (column t)) between now

-- The phases on p that count: where a task was found waiting on p, those that were found then, and else those of a column that was loaded later. A task that was
-- not found waiting has none.
abbrev pub phase_used : Bool → State → ℕ → (ℕ → Option ℕ) → ℕ → Option ℕ
phase_used awaited s p column u = if is_some (s.published u) then (if awaited then s.phases u p else column u) else None

-- The statuses of a collect as they would be if the seat's own task had published the event: the phases on the event's phaser of the tasks found
-- waiting are loaded, in order, and count where no task was found waiting on it; the own ones are those of the seat.
pub record IsSupposed (plan : Plan) (list : List Status) (event : Event) (supposed : List Status) (before now : Known) : Type 0 where
  pub found : State
  pub column : ℕ → Option ℕ
  pub statuses : list ≡ statuses_on plan found (is_awaited plan found)
  pub loads : LoadsColumn found.published event.p.0 column (length plan.parents) before now
  pub supposed_are :
      supposed ≡ statuses_on plan
      (state_supposed found (task_of before.view) event (own_phase before.view) (phase_used (is_awaited plan found event.p.0) found event.p.0 column))
      (updated (is_awaited plan found) event.p.0 true)
