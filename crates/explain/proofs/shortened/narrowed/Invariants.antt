use Rattle.explain.proofs.Fronts.{IsNarrowedSoFar}
use Rattle.explain.proofs.shortened.narrowed.Given as goal

abbrev pub invariant-loop-byte : goal.invariant-loop-byte
invariant-loop-byte l = IsNarrowedSoFar l.lines l.byte-index l.out.items l.room
