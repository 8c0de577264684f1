-- Records: the text of a run and the journal of its steps, as the input of a replay.
use Rattle.std.specs.Prelude.{◌≡◌, ◌≢◌, ◌≤◌, ◌<◌, ◌^◌, ◌*◌, ℕ, List, [], ◌∷◌, ◌++◌, Contains, Result, Ok, Err, length, map}
use Rattle.armus_base.specs.declared.ids.TaskId.{TaskId}
use Rattle.armus_base.specs.CheckedPlans.{IsCheckedPlan}
use Rattle.armus_base.specs.Limits.{max_ops, max_tasks}
use Rattle.armus_base.specs.Plans.{Plan}
use Rattle.armus_base.specs.Runs.{state_after}
use Rattle.armus_base.specs.States.{Step}
use Rattle.locked_world.specs.Journals.{IsJournalOf}
use Rattle.schedule.specs.declared.lines.TheConstants.{MOST_DIGITS}
use Rattle.schedule.specs.declared.lines.Line.{Line}
use Rattle.schedule.specs.declared.lines.Line.TheVariants as line
use Rattle.schedule.specs.declared.verdict.Replayed.{Replayed}
use Rattle.schedule.specs.declared.verdict.ReplayEnd.{ReplayEnd}
use Rattle.schedule.specs.declared.verdict.ReplayEnd.TheVariants.{Schedule, NoMemory}
use Rattle.schedule.specs.Lines.{IsSchedule, line_end}
use Rattle.schedule.specs.Replaying.{AreDeadIn}
use Rattle.schedule.specs.calls.Replaying.{Replays}
use Rattle.schedule.specs.Split.{IsSplit}
use Rattle.schedule.specs.Records.{IsRecord, step_lines}

-- ---- what is read in them

-- no line of the bytes begins as the mark does
abbrev pub HasNoMark : List ℕ → Type 0
HasNoMark bytes = (rest : List ℕ) → (bytes ≢ 37 ∷ rest) × ((front : List ℕ) → bytes ≢ front ++ line_end ∷ 37 ∷ rest)

-- what the line of a step says
abbrev pub step_of : TaskId → Line
step_of t = line.Step t.0

-- each task of the journal has a number that a line can say
abbrev pub AreReadable : List TaskId → Type 0
AreReadable journal = (t : TaskId) → Contains journal t → t.0 < 10 ^ MOST_DIGITS

-- a replay splits such a record into the closed text and a schedule, whose lines are the steps of the journal
abbrev pub RecordIsRead : Type 0
RecordIsRead =
    (text bytes : List ℕ) (journal : List TaskId) (r : IsRecord text journal bytes) → HasNoMark r.closed → AreReadable journal →
    (schedule : List ℕ) × IsSplit bytes r.closed schedule × IsSchedule schedule (map step_of journal)

-- the tasks of a journal are tasks of its plan, and it has two steps for each op at most
pub record FitsPlan (plan : Plan) (journal : List TaskId) : Type 0 where
  pub tasks : (t : TaskId) → Contains journal t → t.0 < max_tasks
  pub few : length journal ≤ 2 * max_ops
  pub short : length (step_lines journal) ≤ 7 * length journal

-- so does the journal of each plain run
abbrev pub JournalFitsPlan : Type 0
JournalFitsPlan = (plan : Plan) (journal : List TaskId) (h : List Step) → IsCheckedPlan plan → IsJournalOf plan journal h → FitsPlan plan journal

-- ---- what is replayed

-- the replay of a journal's lines has its steps, no pass, and the dead tasks of the state after the run; it finds no line at fault
abbrev pub IsReplayOfRun : List TaskId → List Step → Result Replayed ReplayEnd → Type 0
IsReplayOfRun journal h (Ok done) = AreDeadIn (state_after h) done.dead × done.steps ≡ length journal × done.verdicts ≡ []
IsReplayOfRun journal h (Err (Schedule f)) = ⊥
IsReplayOfRun journal h (Err NoMemory) = Unit {0}

-- whatever the replay answers for the lines of a journal is the replay of its run
abbrev pub JournalReplays : Type 0
JournalReplays =
    (plan : Plan) (journal : List TaskId) (h : List Step) (answer : Result Replayed ReplayEnd) → IsCheckedPlan plan → IsJournalOf plan journal h →
    Replays plan (map step_of journal) answer → IsReplayOfRun journal h answer
