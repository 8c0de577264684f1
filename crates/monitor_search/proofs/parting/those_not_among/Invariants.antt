use Rattle.std.proofs.Common.{◌≡◌, nat_eq, not, take}
use Rattle.std.specs.Prelude.{filter}
use Rattle.std.specs.HashSet.{contains}
use Rattle.monitor_search.specs.inside.Partings.{referred}
use Rattle.monitor_search.proofs.parting.those_not_among.Given as goal

-- so far
abbrev pub invariant-loop-u : goal.invariant-loop-u
invariant-loop-u l = referred l.those.items ≡ filter (λ u. not (contains nat_eq l.numbers u.number)) (take l.u-index l.list)
