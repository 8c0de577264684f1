use Rattle.std.proofs.Common.{◌-◌}
use Rattle.armus_base.specs.Limits.{max_tasks}
use Rattle.clock_pl.proofs.ActivitiesDone.{ActivitiesDone}
use Rattle.clock_pl.proofs.planning.unfold_activities.Given as goal

abbrev pub invariant-loop-t : goal.invariant-loop-t
invariant-loop-t l = ActivitiesDone l.fn.checker l.t l.checker

abbrev pub decreases-loop-t : goal.decreases-loop-t
decreases-loop-t l = max_tasks - l.t
