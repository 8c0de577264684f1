use Rattle.std.proofs.Common.{◌≡◌, map, take}
use Rattle.source_map.specs.Origins.{statement_in}
use Rattle.explain_facts.specs.Names.{given_name}
use Rattle.explain_facts.specs.inside.Spelled.{spellings}
use Rattle.explain_facts.proofs.names.names_given.Given as goal

abbrev pub invariant-loop-n : goal.invariant-loop-n
invariant-loop-n l = spellings l.names.items ≡ map (λ n. given_name (statement_in l.origins.statements n)) (take l.n-index l.statements)
