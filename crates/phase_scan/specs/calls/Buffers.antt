-- How contracts see the buffer of a collect.
use Rattle.phase_scan.specs.declared.cells.Cells.TheInside.{Inside}
use Rattle.phase_scan.specs.calls.Collects.{Collection}
use Rattle.phase_scan.specs.calls.Tables.{statuses_of_findings}

-- its counts, and the statuses of what was found last
abbrev pub collection_of : Inside → Collection
collection_of c = record { tasks = c.found.tasks; phasers = c.found.phasers; statuses = statuses_of_findings c.found }
