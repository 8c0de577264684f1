-- What is true of each collector.
use Rattle.std.specs.Prelude.{◌≡◌, vec_len}
use Rattle.collector.specs.declared.collector.Collector.TheInside.{Inside}

-- there is a name for each task
abbrev pub IsCollector : Inside → Type 0
IsCollector c = vec_len c.names ≡ c.cells.tasks
