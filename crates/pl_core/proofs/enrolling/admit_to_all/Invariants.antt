use Rattle.std.proofs.Common.{◌+◌}
use Rattle.pl_core.specs.inside.Admitting.{Admits, AreNew}
use Rattle.pl_core.proofs.NewMembers.{IsAmongFirst}
use Rattle.pl_core.proofs.enrolling.admit_to_all.Given as goal

abbrev pub invariant-loop-k : goal.invariant-loop-k
invariant-loop-k l = record {
  kept : AreNew l.phasers (l.t + 1) l.rows.items;
  first : AreNew l.phasers (l.t + 1) l.initial.rows.items;
  admits : Admits l.initial.rows.items l.rows.items l.t (IsAmongFirst l.noted l.k);
}
