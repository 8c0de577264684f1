use Rattle.std.proofs.Common.{ℕ, ◌<◌, ◌≤◌, ◌-◌, length}
use Rattle.pl_core.specs.calls.Stands.{IsEnabled}
use Rattle.run_queue.specs.calls.RunQueues.{IsRunQueue}
use Rattle.explain_steps.proofs.stepping.least_enabled.Given as goal

abbrev pub invariant-ready : goal.invariant-ready
invariant-ready l =
    record {
      within : l.from ≤ length l.world.plan.parents;
      queue : IsRunQueue l.world l.world l.queue;
      before : (u : ℕ) → u < l.from → IsEnabled l.world u → ⊥;
    }

abbrev pub decreases-ready : goal.decreases-ready
decreases-ready l = length l.world.plan.parents - l.from
