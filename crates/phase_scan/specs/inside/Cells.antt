-- How contracts see the cells of a collect.
use Rattle.std.specs.Prelude.{◌≡◌, ℕ, length}
use Rattle.armus_base.specs.Finals.{is_event_of}
use Rattle.armus_base.specs.Places.{some_before}
use Rattle.armus_base.specs.calls.Statuses.{IsInOrder}
use Rattle.phase_scan.specs.declared.cells.Cells.TheInside.{Inside}
use Rattle.phase_scan.specs.calls.Tables.{awaited_in_findings, event_for, statuses_of_findings}

-- these statuses are in order, the phasers on which a task was found waiting are marked, and the column has room for each task
pub record AreCells (c : Inside) : Type 0 where
  pub in_order : IsInOrder (statuses_of_findings c.found)
  pub marked : (p : ℕ) → awaited_in_findings c.found p ≡ some_before (λ t. is_event_of p (event_for c.found.events.items t)) c.found.tasks
  pub room : length c.column.items ≡ c.found.tasks
