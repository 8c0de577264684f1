use Rattle.std.proofs.Common.{◌≡◌, take}
use Rattle.explain_facts.specs.Accounts.{placed_turns}
use Rattle.explain_facts.specs.calls.Known.{kept_layout}
use Rattle.explain_facts.proofs.waiting.turns_of.Given as goal

abbrev pub invariant-loop-turn : goal.invariant-loop-turn
invariant-loop-turn l = l.turns.items ≡ placed_turns (kept_layout l.facts) (take l.turn-index l.turn-items)
