use Rattle.std.proofs.Common.{◌+◌, ◌*◌}
use Rattle.pl_syntax.specs.calls.Bodies.{followed_by}
use Rattle.pl_syntax.specs.Tree.{count, done}
use Rattle.pl_plan.proofs.SteadyBodies.{SteadySoFar}
use Rattle.pl_plan.proofs.steady.+steady.Given as goal

abbrev pub decreases-is_steady : goal.decreases-is_steady
decreases-is_steady l = 2 * count l.body.now + 1

abbrev pub decreases-is_steady_statement : goal.decreases-is_steady_statement
decreases-is_steady_statement l = 2 * count (followed_by l.stmt.now done)

abbrev pub invariant-is_steady-loop-stmt : goal.invariant-is_steady-loop-stmt
invariant-is_steady-loop-stmt l = SteadySoFar l.stmt-items l.stmt-index l.fn.body
