use Rattle.std.proofs.Common.{map, take}
use Rattle.explain_clock.specs.inside.ToldTogether.{AddsSayings, words_told}
use Rattle.explain_clock.proofs.together.add_sayings.Given as goal

abbrev pub invariant-loop-one : goal.invariant-loop-one
invariant-loop-one l = AddsSayings (map words_told (take l.one-index l.told)) l.initial.sayings.items l.sayings.items
