use Rattle.std.proofs.Common.{◌≤◌, length}
use Rattle.pl_syntax.proofs.Beginnings.{Sought}
use Rattle.pl_syntax.proofs.offsets.offsets_behind.Given as goal

-- the statements before the rest are found
abbrev pub invariant-loop-offsets : goal.invariant-loop-offsets
invariant-loop-offsets l = Sought l.text l.program l.offsets.items l.may_begin l.rest × (length l.rest ≤ length l.text)

abbrev pub decreases-loop-offsets : goal.decreases-loop-offsets
decreases-loop-offsets l = length l.rest
