-- What is proved of serial plain runs and of their lines.
use Rattle.std.specs.Prelude.{◌≡◌, ℕ, List, Result, map}
use Rattle.armus_base.specs.CheckedPlans.{IsCheckedPlan}
use Rattle.armus_base.specs.Plans.{Plan}
use Rattle.armus_base.specs.Runs.{IsPlainRun}
use Rattle.armus_base.specs.States.{Step}
use Rattle.pl_syntax.specs.Grammar.{IsText}
use Rattle.pl_syntax.specs.declared.tree.Program.{Program}
use Rattle.locked_world.specs.Journals.{journal_of}
use Rattle.schedule.specs.calls.Records.{IsReplayOfRun, step_of}
use Rattle.schedule.specs.calls.Replaying.{Replays}
use Rattle.schedule.specs.declared.verdict.ReplayEnd.{ReplayEnd}
use Rattle.schedule.specs.declared.verdict.Replayed.{Replayed}
use Rattle.explain_steps.specs.SerialRuns.{IsSerialRun}
use Rattle.explain_steps.specs.calls.SerialRuns.{IsWholeSerialRun}
use Rattle.explain_steps.specs.ShownSteps.{AreShown, first_steps}

-- a serial plain run is a plain run
abbrev pub SerialIsPlain : Type 0
SerialIsPlain = (plan : Plan) (h : List Step) → IsSerialRun plan h → IsPlainRun plan h

-- its first steps are a serial plain run
abbrev pub FirstStepsAreSerial : Type 0
FirstStepsAreSerial = (plan : Plan) (n : ℕ) (h : List Step) → IsSerialRun plan h → IsSerialRun plan (first_steps n h)

-- a checked plan has one whole serial plain run at most
abbrev pub OneSerialRun : Type 0
OneSerialRun = (plan : Plan) (h g : List Step) → IsCheckedPlan plan → IsWholeSerialRun plan h → IsWholeSerialRun plan g → h ≡ g

-- and it has one
abbrev pub SerialRunExists : Type 0
SerialRunExists = (plan : Plan) → IsCheckedPlan plan → (h : List Step) × IsWholeSerialRun plan h

-- the steps of a run of a text's plan are shown by one list of lines at most
abbrev pub OneShowing : Type 0
OneShowing =
    (text : List ℕ) (p q : Program) (plan : Plan) (h : List Step) (lines other : List ℕ) → AreShown text p plan h lines → AreShown text q plan h other →
    lines ≡ other

-- and the steps of each list are shown by one
abbrev pub ShowingExists : Type 0
ShowingExists =
    (text : List ℕ) (p : Program) (plan : Plan) (h : List Step) → IsText text p → (lines : List ℕ) × AreShown text p plan h lines

-- whatever the replay of the steps of a serial plain run answers has as many steps, finds no line at fault, and names the dead of the state after them
abbrev pub SerialRunReplays : Type 0
SerialRunReplays =
    (plan : Plan) (h : List Step) (answer : Result Replayed ReplayEnd) → IsCheckedPlan plan → IsSerialRun plan h →
    Replays plan (map step_of (journal_of h)) answer → IsReplayOfRun (journal_of h) h answer
