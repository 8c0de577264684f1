use Rattle.std.proofs.Common.{◌≡◌, ◌&&◌, ℕ, not, nat_eq, take}
use Rattle.std.specs.HashSet.{contains}
use Rattle.std.specs.List.{list_any}
use Rattle.monitor_laws.specs.Stuck.{has_phase_below, is_phase_below}
use Rattle.monitor_search.specs.inside.Partings.{referred}
use Rattle.monitor_search.proofs.cascade.least_inside.Given as goal

-- so far
abbrev pub invariant-loop-u : goal.invariant-loop-u
invariant-loop-u l = (n : ℕ) → is_phase_below l.least n ≡ list_any (λ u. not (contains nat_eq l.out u.number) && has_phase_below u l.p n) (referred (take l.u-index l.these))
