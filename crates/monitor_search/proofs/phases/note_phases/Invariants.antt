use Rattle.std.proofs.Common.{◌≡◌, ℕ, List, take}
use Rattle.monitor_search.specs.inside.LeastPhases.{least_of, noted_phases}
use Rattle.monitor_search.proofs.phases.note_phases.Given as goal

-- so far
abbrev pub invariant-loop-membership : goal.invariant-loop-membership
invariant-loop-membership l = (q : List ℕ) → least_of l.least q ≡ noted_phases (take l.membership-index l.u.phases) q l.who (least_of l.fn.least q)
