use Rattle.std.proofs.Common.{◌≡◌, map}
use Rattle.std.specs.Prelude.{take}
use Rattle.pl_plan.specs.inside.KeptForks.{kept_fork}
use Rattle.pl_plan.proofs.planning.fork_numbers.Given as goal

abbrev pub invariant-loop-start : goal.invariant-loop-start
invariant-loop-start l = l.forks.items ≡ map kept_fork (take l.start-index l.starts)
