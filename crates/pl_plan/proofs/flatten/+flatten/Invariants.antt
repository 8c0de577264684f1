use Rattle.pl_plan.proofs.Adding.{Flattened}
use Rattle.pl_plan.proofs.flatten.+flatten.Given as goal

abbrev pub decreases-flatten_body : goal.decreases-flatten_body
decreases-flatten_body l = goal.size-flatten_body l

abbrev pub decreases-flatten_statement : goal.decreases-flatten_statement
decreases-flatten_statement l = goal.size-flatten_statement l

abbrev pub invariant-flatten_body-loop-stmt : goal.invariant-flatten_body-loop-stmt
invariant-flatten_body-loop-stmt l = Flattened l.fn.names.keys l.names.keys l.fn.steps.items l.steps.items l.stmt-items l.stmt-index
