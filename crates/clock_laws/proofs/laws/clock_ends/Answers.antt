use Rattle.clock_laws.proofs.ClockEnds.{ends_are_exact, ends_are_those_of_tasks, none_is_unforked_under_done, started_are_forked}
use Rattle.clock_laws.proofs.laws.clock_ends.Goals as goal

pub returns : goal.returns
returns c = record { of_tasks = ends_are_those_of_tasks; exact = ends_are_exact; started = started_are_forked; unforked = none_is_unforked_under_done }
