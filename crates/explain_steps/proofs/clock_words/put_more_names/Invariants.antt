use Rattle.std.proofs.Common.{◌≡◌, ◌++◌, take}
use Rattle.std.specs.List.{flat_map}
use Rattle.explain_steps.specs.ClockStepWords.{behind_comma}
use Rattle.explain_steps.proofs.clock_words.put_more_names.Given as goal

abbrev pub invariant-loop-name : goal.invariant-loop-name
invariant-loop-name l = l.out.items ≡ l.fn.out.items ++ flat_map behind_comma (take l.name-index l.names)
