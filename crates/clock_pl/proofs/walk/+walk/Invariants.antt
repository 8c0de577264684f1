use Rattle.std.proofs.Common.{◌*◌, ◌+◌}
use Rattle.clock_pl.proofs.Comings.{TurnsDone, StatementsDone}
use Rattle.clock_pl.proofs.walk.+walk.Given as goal

abbrev pub decreases-walk_body : goal.decreases-walk_body
decreases-walk_body l = 4 * goal.size-walk_body l

abbrev pub decreases-walk_statement : goal.decreases-walk_statement
decreases-walk_statement l = 4 * goal.size-walk_statement l + 1

abbrev pub decreases-act : goal.decreases-act
decreases-act l = 4 * goal.size-act l

abbrev pub decreases-walk_turns : goal.decreases-walk_turns
decreases-walk_turns l = 4 * goal.size-walk_turns l + 1

abbrev pub invariant-walk_turns-loop : goal.invariant-walk_turns-loop
invariant-walk_turns-loop l = TurnsDone l.n l.body l.fn.checker l.counter l.checker

abbrev pub invariant-walk_body-loop-stmt : goal.invariant-walk_body-loop-stmt
invariant-walk_body-loop-stmt l = StatementsDone l.fn.before l.stmt-items l.fn.checker l.stmt-index l.at l.checker
