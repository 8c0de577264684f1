use Rattle.std.proofs.Common.{◌≡◌, ◌+◌, ◌-◌, ◌*◌, List}
use Rattle.armus_base.specs.Limits.{max_ops}
use Rattle.armus_base.specs.States.{Step}
use Rattle.run_queue.specs.calls.RunQueues.{IsRunQueue}
use Rattle.explain_steps.specs.inside.SoFar.{IsSoFar}
use Rattle.explain_steps.proofs.stepping.steps_of.Given as goal

abbrev pub invariant-loop-run : goal.invariant-loop-run
invariant-loop-run g l = record {
  plan : l.run.world.plan ≡ l.plan;
  so_far : (h : List Step) × IsSoFar (g.T.TellsSteps.words l.text) h l.run;
  queue : IsRunQueue l.run.world l.run.world l.queue;
}

abbrev pub decreases-loop-run : goal.decreases-loop-run
decreases-loop-run g l = 2 * max_ops + 1 - l.run.steps
