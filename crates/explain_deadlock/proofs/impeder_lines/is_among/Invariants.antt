use Rattle.std.proofs.Common.{◌≡◌, false, map, take}
use Rattle.std.specs.List.{list_any}
use Rattle.explain_tasks.specs.Sayings.{impeder_said, same_said}
use Rattle.explain_deadlock.proofs.impeder_lines.is_among.Given as goal

abbrev pub invariant-loop-first : goal.invariant-loop-first
invariant-loop-first l =
    list_any (λ said. same_said said (impeder_said l.facts l.impeder)) (map (impeder_said l.facts) (take l.first-index l.firsts)) ≡ false
