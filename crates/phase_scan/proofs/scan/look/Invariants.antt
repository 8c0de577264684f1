use Rattle.std.proofs.Common.{◌≡◌, Some}
use Rattle.board.specs.calls.Views.{seen}
use Rattle.board.specs.calls.Seats.{IsOf, event_of}
use Rattle.phase_scan.specs.calls.Looks.{LoadsAlone, ScansTo}
use Rattle.phase_scan.proofs.scan.look.Given as goal

abbrev pub invariant-loop-number : goal.invariant-loop-number
invariant-loop-number l = record {
  made : IsOf l.seat l.board;
  goes_on : LoadsAlone l.initial.seat l.seat;
  event : event_of l.seat ≡ Some l.event;
  scanned : (seen l.seat.view).scanned ≡ l.number;
  scans : ScansTo l.event l.number l.initial.seat l.seat;
}
