use Rattle.pl_plan.proofs.FoldedCodes.{CodesFolded}
use Rattle.pl_plan.proofs.planning.codes_of.Given as goal

abbrev pub invariant-loop-ops : goal.invariant-loop-ops
invariant-loop-ops l = CodesFolded l.steps l.starts l.fn.lists.items l.yielded l.ops-iterator.rest.items l.codes
