use Rattle.std.proofs.Common.{◌-◌}
use Rattle.explain_check.proofs.SoughtTasks.{GoesThrough}
use Rattle.explain_check.proofs.seek.seek_tasks.Given as goal

abbrev pub invariant-loop-t : goal.invariant-loop-t
invariant-loop-t l = GoesThrough l.two l.fn.seeker.checker l.fn.seeker.notes l.fn.seeker.last_turns.items l.t l.seeker.checker l.seeker.notes l.seeker.last_turns.items

abbrev pub decreases-loop-t : goal.decreases-loop-t
decreases-loop-t l = 4096 - l.t
