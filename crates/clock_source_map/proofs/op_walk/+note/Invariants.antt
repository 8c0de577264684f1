use Rattle.std.proofs.Common.{◌+◌, ◌*◌}
use Rattle.clock_syntax.specs.Trees.{clock_count, done}
use Rattle.clock_syntax.specs.calls.Bodies.{clock_followed_by}
use Rattle.clock_source_map.proofs.NotedInTurn.{NotedSoFar, TurnsNoted}
use Rattle.clock_source_map.proofs.NotingOps.{all_ops}
use Rattle.clock_source_map.proofs.op_walk.+note.Given as goal

abbrev pub decreases-note_body : goal.decreases-note_body
decreases-note_body l = 3 * clock_count l.body.now + 1

abbrev pub decreases-note_turns : goal.decreases-note_turns
decreases-note_turns l = 3 * clock_count l.body.now + 2

abbrev pub decreases-note_statement : goal.decreases-note_statement
decreases-note_statement l = 3 * clock_count (clock_followed_by l.stmt.now done)

abbrev pub invariant-note_body-loop-stmt : goal.invariant-note_body-loop-stmt
invariant-note_body-loop-stmt l = NotedSoFar all_ops l.stmt-items l.stmt-index l.fn.body l.fn.n l.at l.fn.notes l.notes

abbrev pub invariant-note_turns-loop : goal.invariant-note_turns-loop
invariant-note_turns-loop l = TurnsNoted all_ops l.fn.n l.fn.body l.fn.notes l.counter l.notes
