use Rattle.std.proofs.Common.{length}
use Rattle.avoider.specs.calls.Decisions.{supposed_statuses}
use Rattle.avoider.specs.inside.Walks.{IsOnItsWay}
use Rattle.avoider.proofs.walking.told_by_walks.Given as goal

abbrev pub invariant-loop : goal.invariant-loop
invariant-loop l = IsOnItsWay (supposed_statuses l.world l.t.0 l.event) (length l.world.plan.parents) l.walk
