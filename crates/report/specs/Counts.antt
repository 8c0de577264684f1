-- How many tasks stand in each way.
use Rattle.std.specs.Prelude.{Bool, true, false, List, length, count_by}
use Rattle.report.specs.declared.counts.StandingCounts.{StandingCounts}
use Rattle.report.specs.declared.standing.Standing.{Standing}
use Rattle.report.specs.declared.standing.Standing.TheVariants.{Done, Dead, Held, Refused, Unforked}

-- a task is done
abbrev pub is_done : Standing → Bool
is_done Done = true
is_done _ = false

-- a task is dead
abbrev pub is_dead : Standing → Bool
is_dead (Dead e) = true
is_dead _ = false

-- a task is held
abbrev pub is_held : Standing → Bool
is_held (Held e) = true
is_held _ = false

-- a task is refused
abbrev pub is_refused : Standing → Bool
is_refused (Refused e) = true
is_refused _ = false

-- a task is unforked
abbrev pub is_unforked : Standing → Bool
is_unforked Unforked = true
is_unforked _ = false

-- how many tasks there are, and how many of them stand in each way
abbrev pub counts_of : List Standing → StandingCounts
counts_of all =
    record {
      tasks = length all;
      done = count_by is_done all;
      dead = count_by is_dead all;
      held = count_by is_held all;
      refused = count_by is_refused all;
      unforked = count_by is_unforked all;
    }
