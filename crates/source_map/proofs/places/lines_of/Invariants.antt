use Rattle.std.proofs.Common.{◌-◌, length}
use Rattle.source_map.proofs.Building.{AreKept}
use Rattle.source_map.proofs.places.lines_of.Given as goal

-- the lines before this byte, with which one begins
abbrev pub invariant-loop-lines : goal.invariant-loop-lines
invariant-loop-lines l = AreKept l.text l.lines.items l.begin

abbrev pub decreases-loop-lines : goal.decreases-loop-lines
decreases-loop-lines l = length l.text - l.begin
