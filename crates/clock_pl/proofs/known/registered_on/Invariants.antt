use Rattle.std.proofs.Common.{◌≡◌, take, []}
use Rattle.clock_pl.specs.inside.ClockChecker.{marked_all}
use Rattle.clock_pl.proofs.known.registered_on.Given as goal

abbrev pub invariant-loop-p : goal.invariant-loop-p
invariant-loop-p l = l.row ≡ marked_all (take l.p-index l.on) []
