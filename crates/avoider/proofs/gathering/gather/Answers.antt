use Rattle.std.proofs.Common.{ap, sym, subst, List}
use Rattle.armus_base.specs.declared.status.Status.{Status}
use Rattle.board.specs.calls.Seats.{aim_at}
use Rattle.phase_scan.specs.calls.Collects.{Collection}
use Rattle.avoider.specs.calls.OnBoard.{Judges}
use Rattle.avoider.proofs.JudgedLists.{judges_so}
use Rattle.avoider.proofs.gathering.gather.Goals as goal

pub returns-clause-judges : goal.returns-clause-judges
returns-clause-judges c =
    let same = c.own_event-event.ensures.seat in
    let aim = aim_at c.args.p.0 c.args.off in
    subst (λ (ss : List Status). Judges ss aim c.own_event-event.result c.in_ok-list.list c.args.seat.now c.supposed.new.seat)
    (ap (λ (v : Collection). v.statuses) (sym c.supposed.ensures.cells))
    (judges_so c.args.board.now c.collect.new.self.statuses c.in_ok-list.list aim c.own_event-event.result c.args.seat.now c.own_event-event.new.seat c.collect.new.by
    c.supposed.new.seat
    c.requires.before.made same c.collect.ensures.collected c.in_ok-list.ensures.supposed c.own_event-event.ensures.event)
