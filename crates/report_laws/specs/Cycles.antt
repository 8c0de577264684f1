-- The cycle of a report is the proof of a deadlock, and the graph that is wanted changes the last line alone.
use Rattle.std.specs.Prelude.{◌≡◌, ℕ, List, []}
use Rattle.armus_base.specs.declared.ids.TaskId.{TaskId}
use Rattle.armus_base.specs.AgreementLaws.{has_task}
use Rattle.armus_base.specs.Deadlocks.{IsAtPhase, IsDeadlockedSet, IsPublishedOn}
use Rattle.armus_base.specs.Plans.{Plan}
use Rattle.armus_base.specs.States.{State}
use Rattle.adaptive.specs.declared.analysis.Wanted.{Wanted}
use Rattle.report.specs.Lines.{cycle_line}
use Rattle.program_io.specs.Texts.{Text}
use Rattle.program_io.specs.Programs.{IsPlanOf}
use Rattle.armus_top.specs.Runs.{IsRunOf}

-- the cycle line of the report of a state: it names tasks that are a deadlocked set of the state; or there is none
pub data ShowsDeadlock (state : State) (cycle_text : Text) : ℕ → Type 0 where
  by_cycle : (cycle : List TaskId) → cycle_text ≡ cycle_line cycle → IsDeadlockedSet (IsPublishedOn state) (IsAtPhase state) (has_task cycle)
      → ShowsDeadlock state cycle_text 1
  by_none : cycle_text ≡ [] → ShowsDeadlock state cycle_text 0

-- a run of a text has status 1 and a cycle line, whose tasks are a deadlocked set of the state in which the run ends, or status 0 and no cycle line
abbrev pub CycleIsProof : Type 0
CycleIsProof =
    (text : Text) (plan : Plan) (g : Wanted) (status : ℕ) (report : Text) → IsPlanOf text plan → (run : IsRunOf plan g status report) →
    ShowsDeadlock run.state run.report_is.cycle_text status
