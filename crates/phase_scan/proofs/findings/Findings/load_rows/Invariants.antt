use Rattle.board.specs.calls.Seats.{IsOf}
use Rattle.phase_scan.specs.calls.Collects.{LoadsRows}
use Rattle.phase_scan.specs.calls.Tables.{awaited_in_findings, state_of_findings}
use Rattle.phase_scan.specs.inside.Filling.{HasSameEvents}
use Rattle.phase_scan.proofs.findings.Findings.load_rows.Given as goal

abbrev pub invariant-loop-number : goal.invariant-loop-number
invariant-loop-number g l = record {
  made : IsOf (g.L.Loads.known l.by) l.board;
  same : HasSameEvents l.initial.self l.self;
  loads : LoadsRows l.initial.self.phasers (awaited_in_findings l.initial.self) (state_of_findings l.self) l.number (g.L.Loads.known l.initial.by) (g.L.Loads.known l.by);
}
