use Rattle.std.specs.Prelude.{option_copied}
use Rattle.pl_core.specs.calls.Worlds.{WorldValue}
use Rattle.run_queue.specs.calls.RunQueues.{HasTurnLeft, IsRunQueue}
use Rattle.explain_facts.specs.calls.Known.{kept_layout}
use Rattle.world_runs.specs.inside.Turns.{left_in}
use Rattle.world_runs.specs.inside.WorldRounds.{LeavesLess}
use Rattle.explain_avoid.specs.inside.SoFar.{RoundsGoTo, NobodyDeadIn}
use Rattle.explain_avoid.proofs.avoiding.Avoiding.turn.Given as goal

abbrev pub invariant-turn : goal.invariant-turn
invariant-turn l =
    record {
      left : LeavesLess NobodyDeadIn l.initial.self.world l.self.world l.moved;
      goes : RoundsGoTo (option_copied l.text.file) (kept_layout l.text.facts.now) l.text.facts.now.program.now l.t.0 l.initial.self l.self l.moved;
      queue :
          (first : WorldValue) → HasTurnLeft l.initial.queue l.t.0 → IsRunQueue first l.initial.self.world l.initial.queue →
          HasTurnLeft l.queue l.t.0 × IsRunQueue first l.self.world l.queue;
    }

abbrev pub decreases-turn : goal.decreases-turn
decreases-turn l = left_in l.self.world
