-- Who tells of the dead tasks of a run on a board, while it goes on.
use Rattle.std.specs.Prelude.{◌≡◌, ◌↔◌, ℕ, ◌++◌, true, List, Contains, None, Result, Ok, Err, length, map}
use Rattle.armus_base.specs.declared.ids.TaskId.{TaskId}
use Rattle.armus_base.specs.declared.status.Dead.{Dead}
use Rattle.armus_base.specs.DeadLists.{IsDeadList}
use Rattle.armus_base.specs.Plans.{Plan}
use Rattle.board.specs.calls.Views.{seen}
use Rattle.board.specs.calls.Seats.{Frame, IsOf, IsSeat, Known}
use Rattle.phase_scan.specs.calls.Settled.{KnowsAll, TellsState, seen_state}
use Rattle.collector.specs.calls.Passes.{HasDeadOf, Watch, was_named}
use Rattle.task_runner.specs.calls.DetectRuns.{AreDeadAtTheEnd, HasFailed, HasWritten, SinkValue}
use Rattle.report.specs.NamedDead.{AreTheDead}
use Rattle.task_runner.specs.declared.ran.Ran.{Ran}
use Rattle.task_runner.specs.declared.ran.RunEnd.{RunEnd}
use Rattle.task_runner.specs.declared.ran.RunEnd.TheVariants.{Write, NoMemory}

-- a collector, its viewer, the tasks that it has named, and those that its last pass named
pub record Telling : Type 0 where
  pub collector : Watch
  pub view : Known
  pub dead : List Dead
  pub last : List TaskId

-- it watches this board; the tasks of its list are those that its collector has named, each once, and dead at the end of every plain run
pub record IsWatching (board : Frame) (live_reporter : Telling) : Type 0 where
  pub made : IsOf live_reporter.view board
  pub kept : IsSeat live_reporter.view
  pub viewer : live_reporter.view.view.own ≡ None
  pub tasks : live_reporter.collector.tasks ≡ length board.plan.parents
  pub phasers : live_reporter.collector.phasers ≡ length board.plan.makers
  pub named : (t : TaskId) → was_named live_reporter.collector.names t.0 ≡ true ↔ Contains (map (λ d. d.t) live_reporter.dead) t
  pub dead : AreDeadAtTheEnd board.plan live_reporter.dead

-- After a pass: it named the dead of the statuses that it found, in order. Where the viewer knew all tasks exactly before it, these are the statuses of the
-- state that the board was in, and its dead tasks.
pub record HasPassed (before : Known) (live_reporter : Telling) : Type 0 where
  pub named : IsDeadList live_reporter.collector.statuses live_reporter.last
  pub statuses : KnowsAll before → TellsState live_reporter.collector.statuses before
  pub dead : KnowsAll before → HasDeadOf (seen_state before) live_reporter.last

-- Further tasks were told, and their lines written; or the sink counted a fault in them; or memory was wanting, after the lines of some of them. All are
-- dead at the end, and none was told before.
abbrev pub TellsMore : {A : Type 0} → Plan → List Dead → List Dead → SinkValue → SinkValue → Result A RunEnd → Type 0
TellsMore plan before now b n (Ok x) = (fresh : List Dead) × now ≡ before ++ fresh × HasWritten fresh b n
TellsMore plan before now b n (Err Write) = (fresh : List Dead) × AreDeadAtTheEnd plan (before ++ fresh) × HasFailed fresh b n
TellsMore plan before now b n (Err NoMemory) = (fresh : List Dead) × AreDeadAtTheEnd plan (before ++ fresh) × HasWritten fresh b n

-- From wherever on the tasks of the first list were told before, those of the second one are told now.
abbrev pub TellsAfter : {A : Type 0} → Plan → List Dead → List Dead → SinkValue → SinkValue → Result A RunEnd → Type 0
TellsAfter plan before now b n result =
    (first : List Dead) (start : SinkValue) → TellsMore {A = Unit {0}} plan first before start b (Ok tt) → TellsMore plan first now start n result

-- the viewer knows the same tasks exactly as before
abbrev pub SeesOn : Known → Known → Type 0
SeesOn before now = (u : ℕ) → (seen now.view).exact u ≡ (seen before.view).exact u

-- what a run tells from here on, in which the dead ones of this list were told before
abbrev pub TellsOn : Plan → List Dead → SinkValue → SinkValue → Result Ran RunEnd → Type 0
TellsOn plan dead before now (Ok ran) = (rest : List Dead) × AreTheDead ran.end.blocked (dead ++ rest) × HasWritten rest before now
TellsOn plan dead before now (Err Write) = (rest : List Dead) × AreDeadAtTheEnd plan (dead ++ rest) × HasFailed rest before now
TellsOn plan dead before now (Err NoMemory) = (rest : List Dead) × AreDeadAtTheEnd plan (dead ++ rest) × HasWritten rest before now
