use Rattle.std.proofs.Common.{length}
use Rattle.world_runs.proofs.live_task.LiveTask.take_children.Given as goal

abbrev pub invariant-ops : goal.invariant-ops
invariant-ops g l = Unit {0}

abbrev pub decreases-ops : goal.decreases-ops
decreases-ops g l = length l.self.behind
