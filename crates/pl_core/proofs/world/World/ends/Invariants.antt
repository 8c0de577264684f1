use Rattle.std.proofs.Common.{◌≡◌}
use Rattle.armus_base.specs.Finals.{end_of, list_below}
use Rattle.pl_core.specs.calls.Worlds.{state_of}
use Rattle.pl_core.proofs.world.World.ends.Given as goal

abbrev pub invariant-loop-t : goal.invariant-loop-t
invariant-loop-t l = l.ends.items ≡ list_below (end_of (state_of l.self)) l.t
