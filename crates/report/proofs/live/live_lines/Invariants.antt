use Rattle.std.proofs.Common.{◌≡◌, take}
use Rattle.report.specs.Live.{live_text}
use Rattle.report.proofs.live.live_lines.Given as goal

abbrev pub invariant-loop-dead : goal.invariant-loop-dead
invariant-loop-dead l = l.out.items ≡ live_text (take l.dead-index l.fresh)
