use Rattle.board.specs.calls.Seats.{IsOf}
use Rattle.phase_scan.specs.calls.Tables.{event_for}
use Rattle.sites.specs.calls.Snaps.{HasLookedOn}
use Rattle.sites.specs.inside.Snapping.{FindsRows}
use Rattle.sites.proofs.snapping.load_rows.Given as goal

abbrev pub invariant-loop-number : goal.invariant-loop-number
invariant-loop-number l =
    record {
      made : IsOf l.view l.board;
      looked : HasLookedOn l.initial.view l.view;
      rows : FindsRows l.board.plan (event_for l.events) l.number l.list.items l.initial.view l.view;
    }
