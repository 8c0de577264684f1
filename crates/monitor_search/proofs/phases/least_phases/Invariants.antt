use Rattle.std.proofs.Common.{◌≡◌, ◌<◌, ℕ, List, take}
use Rattle.std.specs.Prelude.{IfSome}
use Rattle.std.specs.List.{list_any}
use Rattle.monitor_laws.specs.Stuck.{has_phase_below}
use Rattle.monitor_search.specs.inside.LeastPhases.{is_least_below, least_of}
use Rattle.monitor_search.specs.inside.Partings.{referred}
use Rattle.monitor_search.proofs.phases.least_phases.Given as goal

-- so far, and nobody was noted behind
abbrev pub invariant-loop-who : goal.invariant-loop-who
invariant-loop-who l = record {
  below : (q : List ℕ) (n : ℕ) → is_least_below (least_of l.least q) n ≡ list_any (λ u. has_phase_below u q n) (referred (take l.who l.these));
  last : (q : List ℕ) → IfSome (least_of l.least q) (λ k. k.last < l.who);
}
