use Rattle.std.proofs.Common.{◌≡◌, List, ℕ, map, take}
use Rattle.std.specs.Borrow.{Bor}
use Rattle.explain_facts.specs.inside.Spelled.{name_by_shared, spellings}
use Rattle.explain_facts.proofs.names.all_named.Given as goal

abbrev pub invariant-loop-name : goal.invariant-loop-name
invariant-loop-name l = l.all.items ≡ map (λ (x : Bor (List ℕ)). name_by_shared (spellings l.shared.keys) x.now) (take l.name-index l.names)
