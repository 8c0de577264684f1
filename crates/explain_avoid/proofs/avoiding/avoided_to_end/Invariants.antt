use Rattle.std.specs.Prelude.{option_copied}
use Rattle.run_queue.specs.calls.RunQueues.{IsRunQueue}
use Rattle.explain_facts.specs.calls.Known.{kept_layout}
use Rattle.world_runs.specs.inside.Turns.{left_in}
use Rattle.explain_avoid.specs.inside.SoFar.{NobodyDeadIn}
use Rattle.explain_avoid.proofs.Rounds.{HasCome}
use Rattle.explain_avoid.proofs.avoiding.avoided_to_end.Given as goal

abbrev pub invariant-rounds : goal.invariant-rounds
invariant-rounds l =
    record {
      nobody : NobodyDeadIn l.run.world;
      queue : IsRunQueue l.run.world l.run.world l.queue;
      come : HasCome (option_copied l.text.file) (kept_layout l.text.facts.now) l.text.facts.now.program.now l.plan l.run;
    }

abbrev pub decreases-rounds : goal.decreases-rounds
decreases-rounds l = left_in l.run.world
