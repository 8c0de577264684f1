use Rattle.clock_pl.proofs.ClockCodes.{CodesMade}
use Rattle.clock_pl.proofs.planning.codes_of.Given as goal

abbrev pub invariant-loop-ops : goal.invariant-loop-ops
invariant-loop-ops l = CodesMade l.fn.lists.items l.yielded l.ops-iterator.rest.items l.codes
