use Rattle.std.proofs.Common.{◌≡◌, ◌≤◌, false, take}
use Rattle.monitor.specs.HeardLines.{has_line_end}
use Rattle.monitor.proofs.listener.quiet_count.Given as goal

-- there is room for those so far, and none of them is an LF
abbrev pub invariant-loop-count : goal.invariant-loop-count
invariant-loop-count l = (l.count ≤ l.room) × (has_line_end (take l.count l.bytes) ≡ false)
