-- What was found, where a task has published an event.
use Rattle.std.specs.Prelude.{◌≡◌, ℕ, ◌<◌, Bool, true, List, Option}
use Rattle.armus_base.specs.declared.event.Event.{Event}
use Rattle.armus_base.specs.declared.status.Status.{Status}
use Rattle.armus_base.specs.States.{Phases, updated}
use Rattle.armus_base.specs.calls.StatusLists.{statuses_among}
use Rattle.phase_scan.specs.declared.findings.Findings.{Findings}
use Rattle.board.specs.calls.Seats.{Known}
use Rattle.phase_scan.specs.calls.Supposed.{LoadsColumn, phase_used}
use Rattle.phase_scan.specs.calls.Tables.{awaited_in_findings, event_for, state_of_findings, state_supposed}
use Rattle.phase_scan.specs.inside.Phases.{phase_in}

-- the phasers found awaited, and p
abbrev pub awaited_too : Findings → ℕ → ℕ → Bool
awaited_too f p = updated (awaited_in_findings f) p true

-- The phases on p of the first tasks that were found waiting were loaded, in order, and the column has of each the phase that counts.
pub record KeepsColumn (f : Findings) (p : ℕ) (column : List (Option ℕ)) (tasks : ℕ) (before now : Known) : Type 0 where
  pub loaded : ℕ → Option ℕ
  pub loads : LoadsColumn (event_for f.events.items) p loaded tasks before now
  pub kept : (u : ℕ) → u < tasks → phase_in column u ≡ phase_used (awaited_in_findings f p) (state_of_findings f) p loaded u

-- the statuses by what was found, where task t has published the event and has these phases, with a column of phases on the event's phaser
abbrev pub statuses_supposed : Findings → ℕ → Event → Phases → List (Option ℕ) → List Status
statuses_supposed f t event own column =
    statuses_among f.tasks f.phasers (state_supposed (state_of_findings f) t event own (phase_in column)) (awaited_too f event.p.0)
