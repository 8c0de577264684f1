use Rattle.std.proofs.Common.{◌+◌, ◌*◌}
use Rattle.clock_syntax.specs.Trees.{clock_count, done}
use Rattle.clock_syntax.specs.calls.Bodies.{clock_followed_by}
use Rattle.clock_source_map.proofs.NotedInTurn.{NotedSoFar, TurnsNoted}
use Rattle.clock_source_map.proofs.Noting.{all_notes}
use Rattle.clock_source_map.proofs.walk.+walk.Given as goal

abbrev pub decreases-walk_body : goal.decreases-walk_body
decreases-walk_body l = 3 * clock_count l.body.now + 1

abbrev pub decreases-walk_turns : goal.decreases-walk_turns
decreases-walk_turns l = 3 * clock_count l.body.now + 2

abbrev pub decreases-walk_statement : goal.decreases-walk_statement
decreases-walk_statement l = 3 * clock_count (clock_followed_by l.stmt.now done)

abbrev pub invariant-walk_body-loop-stmt : goal.invariant-walk_body-loop-stmt
invariant-walk_body-loop-stmt l = NotedSoFar all_notes l.stmt-items l.stmt-index l.fn.body l.fn.n l.at l.fn.notes l.notes

abbrev pub invariant-walk_turns-loop : goal.invariant-walk_turns-loop
invariant-walk_turns-loop l = TurnsNoted all_notes l.fn.n l.fn.body l.fn.notes l.counter l.notes
