use Rattle.std.proofs.Common.{◌≡◌, false}
use Rattle.std.specs.Prelude.{slice_index_or}
use Rattle.clock_pl.specs.inside.ClockCheckerSteps.{stop_ops}
use Rattle.clock_pl.proofs.activities.stop_ops.Given as goal

abbrev pub invariant-loop-p : goal.invariant-loop-p
invariant-loop-p l = l.ops.items ≡ stop_ops (λ p. slice_index_or l.fn.checker.known.members p false) l.p
