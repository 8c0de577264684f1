use Rattle.std.proofs.Common.{◌≤◌, length}
use Rattle.clock_source_map.proofs.Keywords.{Sought}
use Rattle.clock_source_map.proofs.offsets.clock_offsets.Given as goal

-- the keywords before the rest are found
abbrev pub invariant-loop-token : goal.invariant-loop-token
invariant-loop-token l = Sought l.text l.program.body l.offsets.items l.rest × (length l.rest ≤ length l.text)

abbrev pub decreases-loop-token : goal.decreases-loop-token
decreases-loop-token l = length l.rest
