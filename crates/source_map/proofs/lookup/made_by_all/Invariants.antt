use Rattle.std.proofs.Common.{◌≡◌, take}
use Rattle.std.specs.List.{flat_map}
use Rattle.source_map.specs.Origins.{statements_where}
use Rattle.source_map.specs.inside.Tables.{makes_it, visits_by_fork}
use Rattle.source_map.proofs.lookup.made_by_all.Given as goal

abbrev pub invariant-loop-fork : goal.invariant-loop-fork
invariant-loop-fork l = l.out.items ≡ flat_map (λ fork. statements_where (makes_it l.made) (visits_by_fork l.program fork)) (take l.fork-index l.forks)
