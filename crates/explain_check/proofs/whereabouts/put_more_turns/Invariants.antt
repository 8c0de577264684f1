use Rattle.std.proofs.Common.{◌≡◌, ◌++◌, take}
use Rattle.explain_check.specs.Whereabouts.{more_turns}
use Rattle.explain_check.proofs.whereabouts.put_more_turns.Given as goal

abbrev pub invariant-loop-turn : goal.invariant-loop-turn
invariant-loop-turn l =
    l.out.items ≡ l.initial.out.items ++ more_turns l.statements.places l.statements.offsets l.statements.end (take l.turn-index l.turns)
