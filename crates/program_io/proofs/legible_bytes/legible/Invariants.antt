use Rattle.program_io.proofs.LegibleWritten.{IsLegibleSoFar}
use Rattle.program_io.proofs.legible_bytes.legible.Given as goal

abbrev pub invariant-loop-index : goal.invariant-loop-index
invariant-loop-index l = IsLegibleSoFar l.text l.index l.out.items l.left
