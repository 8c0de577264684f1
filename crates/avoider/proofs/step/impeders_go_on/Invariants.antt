use Rattle.std.proofs.Common.{◌-◌, ◌≤◌, length}
use Rattle.pl_core.specs.calls.Worlds.{state_of}
use Rattle.avoider.specs.inside.GoingOn.{ImpedersGoOn}
use Rattle.avoider.proofs.step.impeders_go_on.Given as goal

abbrev pub invariant-impeders : goal.invariant-impeders
invariant-impeders l = record {
  inside : l.next ≤ length l.world.plan.parents;
  before : ImpedersGoOn (state_of l.world) l.t.0 l.event l.next;
}

abbrev pub decreases-impeders : goal.decreases-impeders
decreases-impeders l = length l.world.plan.parents - l.next
