use Rattle.std.proofs.Common.{◌≤◌, length}
use Rattle.pl_syntax.proofs.Closings.{Closing}
use Rattle.pl_syntax.proofs.ends.braces_behind.Given as goal

-- the braces before the rest are found
abbrev pub invariant-loop-rest : goal.invariant-loop-rest
invariant-loop-rest l = Closing l.text l.program l.braces.items l.rest × (length l.rest ≤ length l.text)

abbrev pub decreases-loop-rest : goal.decreases-loop-rest
decreases-loop-rest l = length l.rest
