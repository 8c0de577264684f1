use Rattle.std.proofs.Common.{◌≡◌, ◌<◌, ℕ}
use Rattle.board.specs.calls.Steps.{own_phase}
use Rattle.phase_scan.specs.calls.Tables.{event_for}
use Rattle.phase_scan.specs.inside.Behind.{IsBehindGiven}
use Rattle.phase_scan.proofs.findings.Findings.own_is_behind.Given as goal

abbrev pub invariant-loop-number : goal.invariant-loop-number
invariant-loop-number l = record {
  seat : l.seat ≡ l.initial.seat;
  none : (u : ℕ) → u < l.number → IsBehindGiven (own_phase l.initial.seat.view) (event_for l.self.events.items u) → ⊥;
}
