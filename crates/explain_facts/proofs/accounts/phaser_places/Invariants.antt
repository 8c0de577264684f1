use Rattle.std.proofs.Common.{◌≡◌, map, take}
use Rattle.explain_facts.specs.Accounts.{statement_place}
use Rattle.explain_facts.specs.calls.Known.{kept_layout}
use Rattle.explain_facts.proofs.accounts.phaser_places.Given as goal

abbrev pub invariant-loop-n : goal.invariant-loop-n
invariant-loop-n l = l.made.items ≡ map (statement_place (kept_layout l.facts)) (take l.n-index l.phasers)
