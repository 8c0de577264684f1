use Rattle.std.proofs.Common.{◌≡◌, map, take}
use Rattle.explain_deadlock.specs.ImpederLines.{rest_of}
use Rattle.explain_tasks.specs.Sayings.{impeder_said}
use Rattle.explain_deadlock.proofs.impeder_lines.rest.Given as goal

abbrev pub invariant-loop-impeder : goal.invariant-loop-impeder
invariant-loop-impeder l = l.rest.items ≡ rest_of l.facts (take l.impeder-index l.impeders) (map (impeder_said l.facts) l.firsts)
