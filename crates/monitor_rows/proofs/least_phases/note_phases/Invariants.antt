use Rattle.std.proofs.Common.{◌≡◌, ◌&&◌, ◌||◌, ℕ, List, take}
use Rattle.std.specs.Prelude.{bytes_eq}
use Rattle.std.specs.List.{list_any}
use Rattle.monitor_laws.specs.Stuck.{has_phase_below}
use Rattle.monitor_rows.specs.inside.LeastPhases.{is_noted_below}
use Rattle.monitor_rows.proofs.least_phases.note_phases.Given as goal

-- so far
abbrev pub invariant-loop-membership : goal.invariant-loop-membership
invariant-loop-membership l =
    (q : List ℕ) (n : ℕ) →
    is_noted_below l.least q n ≡ (is_noted_below l.fn.least q n || (list_any (λ (m : List ℕ × ℕ). bytes_eq q m.0) (take l.membership-index l.u.phases) && has_phase_below l.u q n))
