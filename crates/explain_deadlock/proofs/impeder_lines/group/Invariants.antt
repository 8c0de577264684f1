use Rattle.std.proofs.Common.{◌≡◌, take}
use Rattle.explain_deadlock.specs.ImpederLines.{group_of}
use Rattle.explain_tasks.specs.Sayings.{impeder_said}
use Rattle.explain_deadlock.proofs.impeder_lines.group.Given as goal

abbrev pub invariant-loop-impeder : goal.invariant-loop-impeder
invariant-loop-impeder l = l.all.items ≡ group_of l.facts (take l.impeder-index l.impeders) (impeder_said l.facts l.first)
