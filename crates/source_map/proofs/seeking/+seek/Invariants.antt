use Rattle.std.proofs.Common.{◌+◌, ◌*◌}
use Rattle.pl_syntax.specs.calls.Bodies.{followed_by}
use Rattle.pl_syntax.specs.Tree.{count, done}
use Rattle.source_map.proofs.Sought.{SoughtSoFar}
use Rattle.source_map.proofs.seeking.+seek.Given as goal

abbrev pub decreases-seek_in_body : goal.decreases-seek_in_body
decreases-seek_in_body l = 3 * count l.body.now + 1

abbrev pub decreases-seek_in_turns : goal.decreases-seek_in_turns
decreases-seek_in_turns l = 3 * count l.body.now + 2

abbrev pub decreases-seek_in_statement : goal.decreases-seek_in_statement
decreases-seek_in_statement l = 3 * count (followed_by l.stmt.now done)

abbrev pub invariant-seek_in_body-loop-stmt : goal.invariant-seek_in_body-loop-stmt
invariant-seek_in_body-loop-stmt l = SoughtSoFar l.stmt-items l.stmt-index l.fn.body l.fn.n l.fn.i l.at l.left
