use Rattle.std.proofs.Common.{◌≡◌, ◌++◌, take}
use Rattle.pl_core.specs.calls.Worlds.{state_of}
use Rattle.explain_deadlock.specs.inside.GroupTexts.{paragraph_text, texts_in}
use Rattle.explain_deadlock.proofs.paragraphs.put_grouped.Given as goal

abbrev pub invariant-loop-k : goal.invariant-loop-k
invariant-loop-k l = l.out.items ≡ l.initial.out.items ++ texts_in (paragraph_text l.facts (state_of l.world).phases) (take l.k l.sayings) (take l.k l.groups)
