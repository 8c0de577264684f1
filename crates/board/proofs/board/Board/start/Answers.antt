use Rattle.std.proofs.Common.{◌≡◌, None, sym, ap, ◌∙◌, subst}
use Rattle.armus_base.specs.CheckedPlans.{IsCheckedPlan}
use Rattle.board.specs.calls.Seats.{IsNewSeat, Known, nothing_seen}
use Rattle.board.specs.calls.Steps.{viewer}
use Rattle.board.specs.declared.view.View.{View}
use Rattle.board.proofs.Beginning.{viewer_new}
use Rattle.board.proofs.board.Board.start.Goals as goal

pub returns-clause-viewer : goal.returns-clause-viewer
returns-clause-viewer c =
    let b = c.in_ok-board in
    let first = b.ensures.place.2 in
    let seat = c.begin-seat.ensures.seat in
    let other = c.begin-seat.ensures.other in
    let table = c.begin-seat.result.1.table_id in
    let at : viewer b.place.me.0 ≡ c.begin-seat.result.1.me.0 = sym (ap (λ m. m.0) other.1) in
    subst (λ (k : Known). IsNewSeat b.board None nothing_seen k)
    (ap (λ (v : View). record { table = table; view = v }) at ∙ sym c.of.ensures)
    (viewer_new first.0 b.board table first.1 first.2 other.0 b.place.me.0 first.3 (subst IsCheckedPlan (seat.of_board.plan ∙ sym first.1) seat.kept.checked))
