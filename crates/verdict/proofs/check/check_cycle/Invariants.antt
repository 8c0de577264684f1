use Rattle.std.proofs.Common.{ℕ, ◌<◌}
use Rattle.verdict.specs.calls.Cycles.{IsLink}
use Rattle.verdict.proofs.check.check_cycle.Given as goal

abbrev pub invariant-loop-k : goal.invariant-loop-k
invariant-loop-k l = (i : ℕ) → i < l.k → IsLink l.list l.cycle.tasks l.cycle.events i
