use Rattle.std.proofs.Common.{◌≡◌}
use Rattle.run_queue.specs.calls.RunQueues.{IsRunQueue}
use Rattle.world_runs.specs.inside.Turns.{left_in}
use Rattle.world_runs.specs.inside.WorldRounds.{GoesByRounds}
use Rattle.world_runs.proofs.ending.end_by.Given as goal

abbrev pub invariant-rounds : goal.invariant-rounds
invariant-rounds g l =
    record {
      plan : l.world.plan ≡ l.initial.world.plan;
      keeps : g.S.NextStep.keeps l.world;
      queue : IsRunQueue l.world l.world l.queue;
      rounds : GoesByRounds g.S.NextStep.makes l.initial.world l.world;
    }

abbrev pub decreases-rounds : goal.decreases-rounds
decreases-rounds g l = left_in l.world
