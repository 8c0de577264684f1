use Rattle.std.proofs.Common.{◌<◌, length}
use Rattle.avoider.specs.calls.Decisions.{supposed_statuses}
use Rattle.avoider.specs.inside.Walks.{AreAlive}
use Rattle.avoider.proofs.walking.ImpederWalk.tells_alive.Given as goal

abbrev pub invariant-loop : goal.invariant-loop
invariant-loop l =
    record {
      inside : l.at.0 < length l.world.plan.parents;
      alive : AreAlive (supposed_statuses l.world l.t.0 l.event) (length l.world.plan.parents) l.self.alive.items;
    }
