use Rattle.pl_plan.proofs.Beginning.{Leaving}
use Rattle.pl_plan.proofs.tasks.leave_all.Given as goal

abbrev pub invariant-loop-p : goal.invariant-loop-p
invariant-loop-p l = Leaving l.fn.checker l.fn.t.0 l.fn.n l.p l.checker
