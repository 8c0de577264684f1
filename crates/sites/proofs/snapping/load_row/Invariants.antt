use Rattle.board.specs.calls.Seats.{IsOf}
use Rattle.sites.specs.calls.Snaps.{HasLookedOn}
use Rattle.sites.specs.inside.Snapping.{FindsRow}
use Rattle.sites.proofs.snapping.load_row.Given as goal

abbrev pub invariant-loop-number : goal.invariant-loop-number
invariant-loop-number l =
    record {
      made : IsOf l.view l.board;
      looked : HasLookedOn l.initial.view l.view;
      row : FindsRow l.number l.t.0 l.list.items l.initial.view l.view;
    }
