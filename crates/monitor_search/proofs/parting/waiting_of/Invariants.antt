use Rattle.std.proofs.Common.{◌≡◌, map, take}
use Rattle.std.specs.Prelude.{filter}
use Rattle.monitor_laws.specs.Faults.{waits_now}
use Rattle.monitor_search.specs.Known.{known_task}
use Rattle.monitor_search.specs.inside.Partings.{referred}
use Rattle.monitor_search.proofs.parting.waiting_of.Given as goal

-- so far
abbrev pub invariant-loop-u : goal.invariant-loop-u
invariant-loop-u l = l.known ≡ map known_task (filter (λ u. waits_now u.condition) (referred (take l.u-index l.these)))
