use Rattle.std.proofs.Common.{◌≡◌, ℕ}
use Rattle.armus_base.specs.Finals.{is_event_of}
use Rattle.armus_base.specs.Places.{some_before}
use Rattle.board.specs.calls.Seats.{IsOf}
use Rattle.phase_scan.specs.calls.Collects.{LoadsAwaits}
use Rattle.phase_scan.specs.calls.Tables.{awaited_in_findings, event_for}
use Rattle.phase_scan.proofs.findings.Findings.load_awaits.Given as goal

abbrev pub invariant-loop-number : goal.invariant-loop-number
invariant-loop-number g l = record {
  made : IsOf (g.L.Loads.known l.by) l.board;
  tasks : l.self.tasks ≡ l.initial.self.tasks;
  phasers : l.self.phasers ≡ l.initial.self.phasers;
  loads : LoadsAwaits (event_for l.self.events.items) l.number (g.L.Loads.known l.initial.by) (g.L.Loads.known l.by);
  awaited : (p : ℕ) → awaited_in_findings l.self p ≡ some_before (λ t. is_event_of p (event_for l.self.events.items t)) l.number;
}
