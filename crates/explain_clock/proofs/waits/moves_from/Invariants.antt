use Rattle.std.proofs.Common.{◌≡◌, ◌+◌, ◌++◌, length}
use Rattle.explain_clock.specs.ClockFacts.{moves_from}
use Rattle.explain_clock.proofs.waits.moves_from.Given as goal

abbrev pub invariant-ops : goal.invariant-ops
invariant-ops l = record {
  numbers : l.at + length l.left ≡ l.i + length l.fn.ops;
  so_far : l.moves.items ++ moves_from l.origins l.at l.left ≡ moves_from l.origins l.i l.fn.ops;
}

abbrev pub decreases-ops : goal.decreases-ops
decreases-ops l = length l.left
