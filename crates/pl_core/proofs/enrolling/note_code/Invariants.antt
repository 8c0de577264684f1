use Rattle.pl_core.specs.inside.Enrolling.{Notes}
use Rattle.pl_core.proofs.Noted.{IsEnrolledBefore}
use Rattle.pl_core.proofs.enrolling.note_code.Given as goal

abbrev pub invariant-loop-k : goal.invariant-loop-k
invariant-loop-k l = Notes l.initial.rows.items l.rows.items (IsEnrolledBefore l.pieces l.t l.k)
