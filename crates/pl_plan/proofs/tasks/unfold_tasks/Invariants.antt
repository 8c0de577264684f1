use Rattle.std.proofs.Common.{◌-◌}
use Rattle.armus_base.specs.Limits.{max_tasks}
use Rattle.pl_plan.proofs.Beginning.{Tasked}
use Rattle.pl_plan.proofs.tasks.unfold_tasks.Given as goal

abbrev pub invariant-loop-t : goal.invariant-loop-t
invariant-loop-t l = Tasked l.fn.two l.fn.checker l.t l.checker

abbrev pub decreases-loop-t : goal.decreases-loop-t
decreases-loop-t l = max_tasks - l.t
