use Rattle.std.proofs.Common.{◌-◌, ◌≤◌, length}
use Rattle.armus_base.specs.States.{if_published}
use Rattle.pl_core.specs.calls.Worlds.{state_of}
use Rattle.avoider.specs.inside.Waiting.{AreImpeders}
use Rattle.avoider.proofs.waiting.impeders.Given as goal

abbrev pub invariant-impeding : goal.invariant-impeding
invariant-impeding l = record {
  inside : l.next ≤ length l.world.plan.parents;
  are : AreImpeders (if_published (state_of l.world) l.t.0 l.event) l.next l.awaited l.row;
}

abbrev pub decreases-impeding : goal.decreases-impeding
decreases-impeding l = length l.world.plan.parents - l.next
