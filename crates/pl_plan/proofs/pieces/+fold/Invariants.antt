use Rattle.std.proofs.Common.{◌-◌, ◌+◌, ◌*◌}
use Rattle.pl_plan.proofs.FoldsOn.{StepsFolded, TurnsFolded}
use Rattle.pl_plan.proofs.pieces.+fold.Given as goal

abbrev pub decreases-fold_steps : goal.decreases-fold_steps
decreases-fold_steps l = 3 * (l.to - l.from) + 2

abbrev pub decreases-fold_loop : goal.decreases-fold_loop
decreases-fold_loop l = 3 * (l.after - l.at) + 1

abbrev pub decreases-fold_steady : goal.decreases-fold_steady
decreases-fold_steady l = 3 * (l.after - l.at)

abbrev pub decreases-fold_turns : goal.decreases-fold_turns
decreases-fold_turns l = 3 * (l.after - l.at)

abbrev pub decreases-fold_steps-loop-at : goal.decreases-fold_steps-loop-at
decreases-fold_steps-loop-at l = l.to - l.at

abbrev pub invariant-fold_steps-loop-at : goal.invariant-fold_steps-loop-at
invariant-fold_steps-loop-at l = StepsFolded l.steps l.from l.to l.fn.ops l.fn.pieces.items l.at l.left l.pieces.items

abbrev pub invariant-fold_turns-loop : goal.invariant-fold_turns-loop
invariant-fold_turns-loop l = TurnsFolded l.steps l.at l.after l.turns l.fn.ops l.fn.pieces.items l.counter l.left l.pieces.items
