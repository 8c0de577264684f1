-- What `avoid` reports.
use Rattle.std.specs.Prelude.{◌≡◌, ◌<◌, ◌⊎◌, ℕ, Bool, true, false, List, ◌++◌, length}
use Rattle.armus_base.specs.declared.ending.TaskEnd.{TaskEnd}
use Rattle.armus_base.specs.declared.ending.TaskEnd.TheVariants.{Refused}
use Rattle.armus_base.specs.Avoidance.{IsAvoidedFinal}
use Rattle.armus_base.specs.Deadlocks.{NobodyDead}
use Rattle.armus_base.specs.Finals.{end_of, final_of}
use Rattle.armus_base.specs.Plans.{Plan}
use Rattle.armus_base.specs.Runs.{state_after}
use Rattle.armus_base.specs.Serial.{IsSerialAvoidedFinal}
use Rattle.armus_base.specs.States.{State, Step}
use Rattle.adaptive.specs.declared.analysis.Wanted.{Wanted}
use Rattle.report.specs.Reports.{IsReport}
use Rattle.program_io.specs.Texts.{Text}
use Rattle.program_io.specs.Programs.{IsPlanOf}

-- a task has ended so that its await was refused
abbrev pub ended_refused : TaskEnd → Bool
ended_refused (Refused e) = true
ended_refused _ = false

-- the status tells whether a task of the plan has ended so in the state
abbrev pub TellsRefused : Plan → State → ℕ → Type 0
TellsRefused plan state status =
    ((status ≡ 1) × ((t : ℕ) × (t < length plan.parents) × (ended_refused (end_of state t) ≡ true)))
    ⊎ ((status ≡ 0) × ((t : ℕ) → t < length plan.parents → ended_refused (end_of state t) ≡ false))

-- whatever first steps of the run are made, nobody is dead after them
abbrev pub IsNeverDead : List Step → Type 0
IsNeverDead steps = (more before : List Step) → steps ≡ more ++ before → NobodyDead (state_after before)

-- the report of a state in which a maximal avoided run of the text's plan ends, in which nobody is ever dead; with one worker the state in which the serial
-- avoided run ends; and the status that tells whether a task is refused in it
pub record IsAvoidOf (text : Text) (workers : ℕ) (g : Wanted) (status : ℕ) (report : Text) : Type 0 where
  pub plan : Plan
  pub plan_is : IsPlanOf text plan
  pub state : State
  pub avoided : IsAvoidedFinal plan state
  pub never : IsNeverDead avoided.steps
  pub serial : workers ≡ 1 → IsSerialAvoidedFinal plan state
  pub status_is : TellsRefused plan state status
  pub report_is : IsReport (final_of plan state) g report
