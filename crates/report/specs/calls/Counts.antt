-- How many tasks stand in each way.
use Rattle.std.specs.Prelude.{◌≡◌, ◌+◌, List}
use Rattle.report.specs.declared.standing.Standing.{Standing}
use Rattle.report.specs.Counts.{counts_of}

-- the counts of the ways add up to the number of tasks
abbrev pub CountsAddUp : Type 0
CountsAddUp = (all : List Standing) → let c = counts_of all in c.done + c.dead + c.held + c.refused + c.unforked ≡ c.tasks
