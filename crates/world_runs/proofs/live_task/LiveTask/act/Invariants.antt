use Rattle.std.proofs.Common.{length}
use Rattle.world_runs.proofs.live_task.LiveTask.act.Given as goal

abbrev pub invariant-turn : goal.invariant-turn
invariant-turn g l = Unit {0}

abbrev pub decreases-turn : goal.decreases-turn
decreases-turn g l = length l.self.left
