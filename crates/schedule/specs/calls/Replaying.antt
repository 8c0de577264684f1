-- What a replay answers.
use Rattle.std.specs.Prelude.{List, [], Result, Ok, Err}
use Rattle.armus_base.specs.Plans.{Plan}
use Rattle.schedule.specs.declared.lines.Line.{Line}
use Rattle.schedule.specs.declared.verdict.Replayed.{Replayed}
use Rattle.schedule.specs.declared.verdict.ReplayEnd.{ReplayEnd}
use Rattle.schedule.specs.declared.verdict.ReplayEnd.TheVariants.{Schedule, NoMemory}
use Rattle.schedule.specs.Replays.{IsFirstFault}
use Rattle.schedule.specs.Replaying.{IsReplayed}

-- what a replay answers: that, or the first line at fault
abbrev pub Replays : Plan → List Line → Result Replayed ReplayEnd → Type 0
Replays plan lines (Ok done) = IsReplayed plan lines done
Replays plan lines (Err (Schedule f)) = IsFirstFault plan lines f.line f.kind
Replays plan lines (Err NoMemory) = Unit {0}
