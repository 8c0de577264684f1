use Rattle.std.proofs.Common.{◌≡◌, ℕ, List, take}
use Rattle.std.specs.List.{list_any}
use Rattle.monitor_laws.specs.Stuck.{has_phase_below}
use Rattle.monitor_rows.specs.inside.LeastPhases.{is_noted_below}
use Rattle.monitor_rows.proofs.least_phases.least_phases.Given as goal

-- so far
abbrev pub invariant-loop-u : goal.invariant-loop-u
invariant-loop-u l = (q : List ℕ) (n : ℕ) → is_noted_below l.least q n ≡ list_any (λ u. has_phase_below u q n) (take l.u-index l.list)
