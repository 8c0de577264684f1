-- Lists of dead tasks, by their tasks, and what is told of them at the end of a run.
use Rattle.std.specs.Prelude.{◌≡◌, List, Contains, ◌++◌, Result, Ok, Err}
use Rattle.armus_base.specs.declared.ids.TaskId.{TaskId}
use Rattle.armus_base.specs.declared.status.Dead.{Dead}
use Rattle.armus_base.specs.declared.status.Status.{Status}
use Rattle.report.specs.NamedDead.{AreTheDead}
use Rattle.task_runner.specs.declared.ran.RunEnd.{RunEnd}
use Rattle.task_runner.specs.declared.ran.RunEnd.TheVariants.{Write, NoMemory}
use Rattle.task_runner.specs.calls.DetectRuns.{SinkValue, HasWritten, HasFailed}

-- one of these is task t
abbrev pub IsNamedIn : List Dead → TaskId → Type 0
IsNamedIn dead t = (d : Dead) × Contains dead d × d.t ≡ t

-- The lines of all dead tasks of the statuses that were not told before were written; or the sink counted a fault in them; or memory was wanting, and
-- nothing was written.
abbrev pub TellsRest : List Status → List Dead → SinkValue → SinkValue → Result (Unit {0}) RunEnd → Type 0
TellsRest blocked dead before now (Ok x) = (rest : List Dead) × AreTheDead blocked (dead ++ rest) × HasWritten rest before now
TellsRest blocked dead before now (Err Write) = (rest : List Dead) × AreTheDead blocked (dead ++ rest) × HasFailed rest before now
TellsRest blocked dead before now (Err NoMemory) = now ≡ before
