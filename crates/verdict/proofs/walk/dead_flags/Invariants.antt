use Rattle.verdict.specs.inside.DeadWalks.{IsFlags}
use Rattle.verdict.proofs.walk.dead_flags.Given as goal

abbrev pub invariant-loop-k : goal.invariant-loop-k
invariant-loop-k l = IsFlags l.tasks l.dead l.k l.flags.items
