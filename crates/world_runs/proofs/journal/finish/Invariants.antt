use Rattle.world_runs.specs.inside.Turns.{left_in}
use Rattle.world_runs.proofs.journal.finish.Given as goal

abbrev pub invariant-loop-logged : goal.invariant-loop-logged
invariant-loop-logged g l = Unit {0}

abbrev pub decreases-loop-logged : goal.decreases-loop-logged
decreases-loop-logged g l = left_in l.logged.world
