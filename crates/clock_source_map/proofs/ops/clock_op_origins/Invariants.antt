use Rattle.std.proofs.Common.{◌≡◌, Ok, take}
use Rattle.clock_semantics.specs.Unfolding.{ClockUnfolding, clock_unfolded}
use Rattle.clock_source_map.specs.ClockOps.{all_op_origins}
use Rattle.clock_source_map.proofs.ops.clock_op_origins.Given as goal

-- the tasks before t are done
abbrev pub invariant-loop-t : goal.invariant-loop-t
invariant-loop-t l = (u : ClockUnfolding) → clock_unfolded l.program.body ≡ Ok u → l.all ≡ take l.t (all_op_origins u)
