use Rattle.std.proofs.Common.{◌≤◌}
use Rattle.pl_core.proofs.NextBehind.{NoneBetween}
use Rattle.pl_core.proofs.behind.next_behind.Given as goal

abbrev pub invariant-loop-at : goal.invariant-loop-at
invariant-loop-at l = record {
  later : l.first ≤ l.at;
  none : NoneBetween l.cells l.n l.first l.at;
}
