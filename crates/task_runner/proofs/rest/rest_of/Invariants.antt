use Rattle.task_runner.proofs.Resting.{IsRestUpTo}
use Rattle.task_runner.proofs.rest.rest_of.Given as goal

abbrev pub invariant-loop-status : goal.invariant-loop-status
invariant-loop-status l = IsRestUpTo l.blocked l.told l.rest.items l.status-index
