use Rattle.std.proofs.Common.{◌≡◌, length}
use Rattle.board.specs.calls.Seats.{IsOf}
use Rattle.phase_scan.specs.inside.Supposing.{KeepsColumn}
use Rattle.phase_scan.proofs.findings.Findings.load_column.Given as goal

abbrev pub invariant-loop-number : goal.invariant-loop-number
invariant-loop-number l = record {
  made : IsOf l.seat l.board;
  count : length l.column ≡ l.self.tasks;
  keeps : KeepsColumn l.self l.p.0 l.column l.number l.initial.seat l.seat;
}
