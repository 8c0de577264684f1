use Rattle.std.proofs.Common.{◌≤◌, ◌-◌, length}
use Rattle.run_queue.specs.calls.RunQueues.{IsRunQueue}
use Rattle.world_runs.specs.inside.WorldRounds.{HaveTurns, LeavesLess}
use Rattle.world_runs.proofs.world_round.turns.Given as goal

abbrev pub invariant-turns : goal.invariant-turns
invariant-turns g l =
    record {
      within : l.from ≤ length l.initial.world.plan.parents;
      left : LeavesLess g.S.NextStep.keeps l.initial.world l.world l.moved;
      turns : HaveTurns g.S.NextStep.makes l.initial.world l.from l.world l.moved;
      queue : IsRunQueue l.initial.world l.world l.queue;
    }

abbrev pub decreases-turns : goal.decreases-turns
decreases-turns g l = length l.initial.world.plan.parents - l.from
