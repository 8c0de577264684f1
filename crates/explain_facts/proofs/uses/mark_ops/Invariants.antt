use Rattle.std.proofs.Common.{length}
use Rattle.explain_facts.proofs.Marks.{HaveMarksSoFar}
use Rattle.explain_facts.proofs.uses.mark_ops.Given as goal

abbrev pub invariant-ops : goal.invariant-ops
invariant-ops l = HaveMarksSoFar l.use_so l.fn.ops l.left l.initial.marks l.marks

abbrev pub decreases-ops : goal.decreases-ops
decreases-ops l = length l.left
