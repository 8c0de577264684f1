use Rattle.std.proofs.Common.{ℕ, ◌-◌, ◌<◌, ◌≤◌, length}
use Rattle.dep_state.specs.calls.Deps.{rows_of}
use Rattle.dep_state.specs.inside.Made.{NotAfter, IsPhaseBelow, IsAdded, nth_event}
use Rattle.dep_state.proofs.impeders.add_phase.Given as goal

abbrev pub invariant-run : goal.invariant-run
invariant-run l = record {
  inside : l.i ≤ length l.events;
  after : (j : ℕ) → l.i ≤ j → j < length l.events → NotAfter (nth_event l.events j) (record { p = l.member.p; n = l.member.n }) → ⊥;
  added : IsAdded (λ j. (j < l.i) × IsPhaseBelow l.member (nth_event l.events j)) l.k (rows_of l.initial.rows.items) (rows_of l.rows.items);
}

abbrev pub decreases-run : goal.decreases-run
decreases-run l = length l.events - l.i
