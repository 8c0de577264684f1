use Rattle.std.proofs.Common.{◌-◌, ◌≤◌, length}
use Rattle.armus_base.specs.States.{if_published}
use Rattle.pl_core.specs.calls.Worlds.{state_of}
use Rattle.pl_core.proofs.NextImpeders.{NobodyBetween}
use Rattle.pl_core.proofs.world.World.next_impeder.Given as goal

abbrev pub invariant-members : goal.invariant-members
invariant-members l = record {
  later : l.fn.from.0 ≤ l.next;
  nobody : NobodyBetween (if_published (state_of l.self) l.t.0 l.event) l.awaited l.fn.from.0 l.next;
}

abbrev pub decreases-members : goal.decreases-members
decreases-members l = length l.self.plan.parents - l.next
