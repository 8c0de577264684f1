use Rattle.std.proofs.Common.{◌≡◌, take}
use Rattle.explain_deadlock.specs.Verdicts.{deadlocked_in}
use Rattle.explain_deadlock.proofs.circle.deadlocked_in.Given as goal

abbrev pub invariant-loop-impeder : goal.invariant-loop-impeder
invariant-loop-impeder l = l.all.items ≡ deadlocked_in l.facts (take l.impeder-index l.impeders)
