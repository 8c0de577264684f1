use Rattle.explain_facts.proofs.Marks.{AreUsedBelow}
use Rattle.explain_facts.proofs.uses.used_phasers.Given as goal

abbrev pub invariant-loop-t : goal.invariant-loop-t
invariant-loop-t l = AreUsedBelow l.use_so l.plan l.t l.marks.items
