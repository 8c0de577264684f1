use Rattle.std.proofs.Common.{◌≡◌, ◌++◌, take, flat_map}
use Rattle.explain_tasks.specs.Sayings.{turn_words}
use Rattle.explain_tasks.proofs.facts.Facts.put_turns.Given as goal

abbrev pub invariant-loop-turn : goal.invariant-loop-turn
invariant-loop-turn l = l.out.items ≡ l.initial.out.items ++ flat_map (turn_words l.self) (take l.turn-index l.turns)
