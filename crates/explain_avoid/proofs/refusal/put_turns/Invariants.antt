use Rattle.std.proofs.Common.{◌≡◌, ◌++◌, flat_map, take}
use Rattle.explain_facts.specs.calls.Known.{kept_layout}
use Rattle.explain_avoid.specs.RefusalWords.{refused_turn_words}
use Rattle.explain_avoid.proofs.refusal.put_turns.Given as goal

abbrev pub invariant-loop-turn : goal.invariant-loop-turn
invariant-loop-turn l = l.out.items ≡ l.initial.out.items ++ flat_map (refused_turn_words (kept_layout l.facts)) (take l.turn-index l.turns)
