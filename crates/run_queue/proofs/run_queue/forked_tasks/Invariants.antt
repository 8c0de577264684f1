use Rattle.std.proofs.Common.{◌≡◌, length}
use Rattle.run_queue.specs.inside.ReadyTasks.{AreForked}
use Rattle.run_queue.proofs.run_queue.forked_tasks.Given as goal

abbrev pub invariant-loop-t : goal.invariant-loop-t
invariant-loop-t l =
    record {
      tasks : length l.ready.flags.items ≡ length l.world.plan.parents;
      forked : AreForked l.world l.t l.ready.flags.items;
    }
