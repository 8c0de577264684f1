-- What the tables of a collect say.
use Rattle.std.specs.Prelude.{ℕ, ◌+◌, ◌*◌, Bool, List, Option, None, nat_lt, slice_get, unwrap_or, if◌then◌else◌, Some}
use Rattle.armus_base.specs.declared.event.Event.{Event}
use Rattle.armus_base.specs.declared.status.Status.{Status}
use Rattle.armus_base.specs.calls.StatusLists.{is_marked, statuses_among}
use Rattle.armus_base.specs.States.{Phases, State, opening, updated}
use Rattle.phase_scan.specs.declared.findings.Findings.{Findings}
use Rattle.phase_scan.specs.declared.phase_table.PhaseTable.{PhaseTable}

-- the phases that the cells of a table of so many phasers say
unfoldable pub phases_of_found : ℕ → List (Option ℕ) → ℕ → Phases
phases_of_found phasers cells t p = if nat_lt p phasers then unwrap_or (slice_get cells (t * phasers + p)) None else None

-- the phases of each task
abbrev pub phases_in_found : PhaseTable → ℕ → Phases
phases_in_found table = phases_of_found table.phasers table.cells.items

-- the event that stands for task t, if one does
abbrev pub event_for : List (Option Event) → ℕ → Option Event
event_for events t = unwrap_or (slice_get events t) None

-- what was found of different moments, as if it were one state
abbrev pub state_of_findings : Findings → State
state_of_findings f = record opening { phases = phases_in_found f.phases; published = event_for f.events.items }

-- which phasers were found awaited
abbrev pub awaited_in_findings : Findings → ℕ → Bool
awaited_in_findings f = is_marked f.awaited.items

-- the statuses of what was found
abbrev pub statuses_of_findings : Findings → List Status
statuses_of_findings f = statuses_among f.tasks f.phasers (state_of_findings f) (awaited_in_findings f)

-- what was found, where task t has published the event and has these phases, with a column of phases of the others on the event's phaser
abbrev pub state_supposed : State → ℕ → Event → Phases → (ℕ → Option ℕ) → State
state_supposed s t event own column =
    record opening {
      phases = updated (λ u. updated (s.phases u) event.p.0 (column u)) t own;
      published = updated s.published t (Some event);
    }
