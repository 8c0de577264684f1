use Rattle.std.proofs.Common.{◌-◌, ◌+◌, ◌*◌, length}
use Rattle.pl_plan.proofs.Walks.{On}
use Rattle.pl_plan.proofs.Turns.{Turned}
use Rattle.pl_plan.proofs.walk.+walk.Given as goal

abbrev pub decreases-walk : goal.decreases-walk
decreases-walk l = 2 * (l.to - l.from) + 1

abbrev pub decreases-walk_turns : goal.decreases-walk_turns
decreases-walk_turns l = 2 * (l.after - l.at)

abbrev pub invariant-walk-loop-at : goal.invariant-walk-loop-at
invariant-walk-loop-at l = On (length l.fn.checker.bindings.slots) l.to l.t.0 l.fn.checker.steps l.from l.fn.checker l.at l.checker

abbrev pub decreases-walk-loop-at : goal.decreases-walk-loop-at
decreases-walk-loop-at l = l.to - l.at

abbrev pub invariant-walk_turns-loop : goal.invariant-walk_turns-loop
invariant-walk_turns-loop l = Turned l.at l.after l.t.0 l.turns l.fn.checker l.counter l.checker
