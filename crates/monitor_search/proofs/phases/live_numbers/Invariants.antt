use Rattle.std.proofs.Common.{◌≡◌, ◌==◌, ◌&&◌, ℕ, nat_eq, take}
use Rattle.std.specs.HashSet.{contains}
use Rattle.std.specs.List.{list_any}
use Rattle.monitor_laws.specs.States.{is_live_task}
use Rattle.monitor_search.specs.inside.Partings.{referred}
use Rattle.monitor_search.proofs.phases.live_numbers.Given as goal

-- so far
abbrev pub invariant-loop-u : goal.invariant-loop-u
invariant-loop-u l = (k : ℕ) → contains nat_eq l.numbers k ≡ list_any (λ u. is_live_task u.condition && k == u.number) (referred (take l.u-index l.these))
