use Rattle.std.proofs.Common.{◌≤◌, take}
use Rattle.schedule.specs.Replays.{Progress, LinesLead}
use Rattle.schedule.specs.inside.KeptReplays.{KeepsProgress}
use Rattle.schedule.proofs.replaying.replay.Given as goal

-- the lines so far lead to a progress that is kept
abbrev pub invariant-loop-at : goal.invariant-loop-at
invariant-loop-at l = (l.replay.steps ≤ l.at) × (a : Progress) × LinesLead l.fn.plan (take l.at l.lines) a × KeepsProgress l.fn.plan a l.replay
