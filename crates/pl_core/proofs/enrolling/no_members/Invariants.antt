use Rattle.pl_core.specs.inside.Admitting.{AreNew}
use Rattle.pl_core.proofs.enrolling.no_members.Given as goal

abbrev pub invariant-loop : goal.invariant-loop
invariant-loop l = AreNew l.counter 0 l.rows.items
