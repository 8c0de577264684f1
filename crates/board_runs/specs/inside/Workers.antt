-- The cells of a worker, and what it has loaded.
use Rattle.std.specs.Prelude.{◌≡◌, Some}
use Rattle.phase_scan.specs.calls.Collects.{Collection}
use Rattle.board_runs.specs.declared.worker_cells.WorkerCells.TheInside.{Inside}
use Rattle.board_runs.specs.calls.Turns.{WorkerLoads}

-- what a contract sees of a worker
abbrev pub worker_of : Inside → WorkerLoads
worker_of worker = record { loads = worker.loads }

-- its cells are for so many tasks and phasers
abbrev pub Fit : Inside → Type 0
Fit worker = (cells : Collection) → worker.cells ≡ Some cells → (cells.tasks ≡ worker.tasks) × (cells.phasers ≡ worker.phasers)
