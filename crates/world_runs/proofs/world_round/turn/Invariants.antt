use Rattle.pl_core.specs.calls.Worlds.{WorldValue}
use Rattle.run_queue.specs.calls.RunQueues.{HasTurnLeft, IsRunQueue}
use Rattle.world_runs.specs.inside.Turns.{left_in}
use Rattle.world_runs.specs.inside.WorldRounds.{GoesBy, LeavesLess}
use Rattle.world_runs.proofs.world_round.turn.Given as goal

abbrev pub invariant-turn : goal.invariant-turn
invariant-turn g l =
    record {
      left : LeavesLess g.S.NextStep.keeps l.initial.world l.world l.moved;
      goes : GoesBy g.S.NextStep.makes l.t.0 l.initial.world l.world l.moved;
      queue :
          (first : WorldValue) → HasTurnLeft l.initial.queue l.t.0 → IsRunQueue first l.initial.world l.initial.queue → HasTurnLeft l.queue l.t.0 × IsRunQueue first l.world l.queue;
    }

abbrev pub decreases-turn : goal.decreases-turn
decreases-turn g l = left_in l.world
