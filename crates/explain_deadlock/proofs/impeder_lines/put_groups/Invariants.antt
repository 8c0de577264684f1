use Rattle.std.proofs.Common.{◌≡◌, ◌++◌, flat_map, map, take}
use Rattle.explain_deadlock.specs.ImpederLines.{group_line, group_of}
use Rattle.explain_tasks.specs.Sayings.{impeder_said}
use Rattle.explain_deadlock.proofs.impeder_lines.put_groups.Given as goal

abbrev pub invariant-loop-first : goal.invariant-loop-first
invariant-loop-first l =
    l.out.items ≡ l.initial.out.items
    ++ flat_map (λ said. group_line l.facts l.count said (group_of l.facts l.impeders said)) (map (impeder_said l.facts) (take l.first-index l.firsts))
