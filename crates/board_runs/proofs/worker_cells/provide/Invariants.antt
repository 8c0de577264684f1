use Rattle.std.proofs.Common.{◌≡◌, length}
use Rattle.board_runs.proofs.worker_cells.provide.Given as goal

abbrev pub invariant-loop-count : goal.invariant-loop-count
invariant-loop-count l = length l.cells.items ≡ l._count
