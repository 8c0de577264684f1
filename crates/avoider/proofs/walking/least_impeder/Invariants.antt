use Rattle.std.proofs.Common.{◌-◌, ◌≤◌, length}
use Rattle.armus_base.specs.States.{if_published}
use Rattle.pl_core.specs.calls.Worlds.{state_of}
use Rattle.avoider.specs.inside.Walks.{ArePassed}
use Rattle.avoider.proofs.walking.least_impeder.Given as goal

abbrev pub invariant-impeding : goal.invariant-impeding
invariant-impeding l = record {
  inside : l.next ≤ length l.world.plan.parents;
  passed : ArePassed (if_published (state_of l.world) l.t.0 l.event) l.awaited l.alive l.next;
}

abbrev pub decreases-impeding : goal.decreases-impeding
decreases-impeding l = length l.world.plan.parents - l.next
