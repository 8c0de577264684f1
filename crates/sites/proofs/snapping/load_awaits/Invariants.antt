use Rattle.std.proofs.Common.{◌≡◌, ℕ, false, vec_len}
use Rattle.std.specs.Prelude.{None}
use Rattle.board.specs.calls.Seats.{IsOf}
use Rattle.phase_scan.specs.calls.Tables.{event_for}
use Rattle.sites.specs.calls.Rows.{is_of_site}
use Rattle.phase_scan.specs.calls.Collects.{LoadsChosen}
use Rattle.sites.specs.calls.Snaps.{HasLookedOn}
use Rattle.sites.proofs.snapping.load_awaits.Given as goal

abbrev pub invariant-loop-number : goal.invariant-loop-number
invariant-loop-number l =
    record {
      made : IsOf l.view l.board;
      looked : HasLookedOn l.initial.view l.view;
      count : vec_len l.events ≡ l.number;
      loads : LoadsChosen (is_of_site l.sites l.site) (event_for l.events.items) l.number l.initial.view l.view;
      others : (t : ℕ) → is_of_site l.sites l.site t ≡ false → event_for l.events.items t ≡ None;
    }
