-- How contracts see a collector.
use Rattle.collector.specs.declared.collector.Collector.TheInside.{Inside}
use Rattle.collector.specs.calls.Passes.{Watch}

-- its cells, and its names
abbrev pub watch_of : Inside → Watch
watch_of c = record { tasks = c.cells.tasks; phasers = c.cells.phasers; names = c.names.items; statuses = c.cells.statuses }
