use Rattle.std.proofs.Common.{◌≡◌, ◌+◌, ◌*◌}
use Rattle.pl_syntax.specs.calls.Bodies.{followed_by}
use Rattle.pl_syntax.specs.Tree.{count, done}
use Rattle.source_map.proofs.TurnedVisits.{TurnsSoFar}
use Rattle.source_map.proofs.turns.+turns.Given as goal

abbrev pub decreases-put_turns : goal.decreases-put_turns
decreases-put_turns l = 3 * count l.body.now + 1

abbrev pub decreases-put_turn : goal.decreases-put_turn
decreases-put_turn l = 3 * count l.body.now + 2

abbrev pub decreases-put_turns_of_statement : goal.decreases-put_turns_of_statement
decreases-put_turns_of_statement l = 3 * count (followed_by l.stmt.now done)

abbrev pub invariant-put_turns-loop-stmt : goal.invariant-put_turns-loop-stmt
invariant-put_turns-loop-stmt l =
    (l.out.items ≡ l.fn.out.items) × TurnsSoFar l.stmt-items l.stmt-index l.fn.body l.fn.n l.fn.i l.at l.left
