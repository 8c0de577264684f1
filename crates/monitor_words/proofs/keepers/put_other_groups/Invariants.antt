use Rattle.std.proofs.Common.{◌≡◌, ◌++◌, codes, flat_map, take}
use Rattle.monitor_words.specs.inside.ValueWords.{shown_group_words}
use Rattle.monitor_words.proofs.keepers.put_other_groups.Given as goal

abbrev pub invariant-loop-group : goal.invariant-loop-group
invariant-loop-group l = l.out.items ≡ l.initial.out.items ++ flat_map (λ y. codes ", " ++ shown_group_words y) (take l.group-index l.groups)
