use Rattle.std.proofs.Common.{take}
use Rattle.verdict.specs.inside.DeadWalks.{IsMadeOf}
use Rattle.verdict.proofs.walk.made.Given as goal

abbrev pub invariant-loop-k : goal.invariant-loop-k
invariant-loop-k l = IsMadeOf l.list (take l.k l.places) l.tasks.items l.events.items
