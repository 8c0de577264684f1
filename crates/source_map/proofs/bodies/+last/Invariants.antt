use Rattle.std.proofs.Common.{◌+◌, ◌*◌}
use Rattle.pl_syntax.specs.calls.Bodies.{followed_by}
use Rattle.pl_syntax.specs.Tree.{count, done}
use Rattle.source_map.proofs.ForkBodies.{LastSoFar}
use Rattle.source_map.proofs.bodies.+last.Given as goal

abbrev pub decreases-last_of_body : goal.decreases-last_of_body
decreases-last_of_body l = 2 * count l.body.now + 1

abbrev pub decreases-last_of_statement : goal.decreases-last_of_statement
decreases-last_of_statement l = 2 * count (followed_by l.stmt.now done)

abbrev pub invariant-last_of_body-loop-stmt : goal.invariant-last_of_body-loop-stmt
invariant-last_of_body-loop-stmt l = LastSoFar l.stmt-items l.stmt-index l.fn.body l.fn.n l.fn.before l.at l.last
