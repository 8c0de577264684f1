use Rattle.explain_avoid.specs.inside.Freed.{AreThoseBelow, IsFreed}
use Rattle.explain_avoid.proofs.refusal.freed.Given as goal

abbrev pub invariant-loop-u : goal.invariant-loop-u
invariant-loop-u l = AreThoseBelow (IsFreed l.world l.phases) l.u l.all.items
