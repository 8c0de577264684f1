use Rattle.clock_pl.specs.inside.ClockChecker.{current, spelled_names}
use Rattle.clock_pl.proofs.Listing.{Listed}
use Rattle.clock_pl.proofs.activities.clocks_of.Given as goal

abbrev pub invariant-loop-name : goal.invariant-loop-name
invariant-loop-name l = Listed l.fn.n l.fn.names (current l.fn.checker) (spelled_names l.listed.keys) l.name-index l.clocks
