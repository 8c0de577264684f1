use Rattle.std.proofs.Common.{◌≡◌, ◌+◌, ◌*◌, ◌++◌}
use Rattle.armus_base.specs.Pieces.{times}
use Rattle.pl_syntax.specs.calls.Bodies.{followed_by}
use Rattle.pl_syntax.specs.Tree.{count, done}
use Rattle.pl_plan.specs.Unfolding.{visits_of}
use Rattle.source_map.specs.Origins.{statements_where}
use Rattle.source_map.specs.inside.Tables.{makes_it}
use Rattle.source_map.proofs.Pushed.{PushedSoFar}
use Rattle.source_map.proofs.making.+push.Given as goal

abbrev pub decreases-push_of_body : goal.decreases-push_of_body
decreases-push_of_body l = 3 * count l.body.now + 1

abbrev pub decreases-push_of_turns : goal.decreases-push_of_turns
decreases-push_of_turns l = 3 * count l.body.now + 2

abbrev pub decreases-push_of_statement : goal.decreases-push_of_statement
decreases-push_of_statement l = 3 * count (followed_by l.stmt.now done)

abbrev pub invariant-push_of_body-loop-stmt : goal.invariant-push_of_body-loop-stmt
invariant-push_of_body-loop-stmt l = PushedSoFar l.fn.made l.stmt-items l.stmt-index l.fn.body l.fn.n l.at l.fn.out.items l.out.items

abbrev pub invariant-push_of_turns-loop : goal.invariant-push_of_turns-loop
invariant-push_of_turns-loop l = l.out.items ≡ l.fn.out.items ++ times l.counter (statements_where (makes_it l.fn.made) (visits_of l.fn.n l.fn.body))
