use Rattle.program_io.proofs.LegibleWritten.{IsToldSoFar}
use Rattle.program_io.proofs.legible_bytes.told_name.Given as goal

abbrev pub invariant-loop-byte : goal.invariant-loop-byte
invariant-loop-byte l = IsToldSoFar l.name l.byte-index l.told.items
