use Rattle.std.proofs.Common.{◌≡◌, ap, sym, subst, List, Some}
use Rattle.armus_base.specs.declared.status.Status.{Status}
use Rattle.armus_base.specs.calls.Statuses.{IsInOrder}
use Rattle.board.specs.calls.Seats.{aim_at}
use Rattle.phase_scan.specs.calls.Collects.{Collection}
use Rattle.phase_scan.specs.calls.Looks.{LoadsAlone}
use Rattle.avoider.specs.calls.Decisions.{IsOutcome}
use Rattle.avoider.specs.calls.OnBoard.{Judges}
use Rattle.avoider.proofs.JudgedLists.{JudgesOrExcludes, all_loads, judged_in_order, judges_told}
use Rattle.avoider.proofs.ToldByLoads.{judged_by, judged_off}
use Rattle.avoider.proofs.deciding.judge.Goals as goal
use Rattle.avoider.proofs.deciding.judge.Goals.{In_ok-supposed}

-- what the loads tell, and that they are loads alone
loads_tell : (c : In_ok-supposed) →
    JudgesOrExcludes c.supposed_on_cycle.new.self.statuses (aim_at c.args.p.0 c.args.off) c.own_event-event.result c.args.seat.now c.supposed_on_cycle.new.seat c.id-t.result.0
    c.in_ok-supposed.supposed
loads_tell c =
    judges_told c.args.board.now c.collect.new.self.statuses c.supposed_on_cycle.new.self.statuses (aim_at c.args.p.0 c.args.off) c.own_event-event.result
    c.args.seat.now c.own_event-event.new.seat c.collect.new.by c.supposed_on_cycle.new.seat c.requires.before.made c.own_event-event.ensures.seat c.collect.ensures.collected
    c.own_event-event.ensures.event (ap (λ (v : Collection). v.statuses) c.supposed_on_cycle.ensures.cells) c.id-t.result.0 c.id-t.ensures.task
    c.in_ok-supposed.supposed c.in_ok-supposed.ensures.supposed

loads_alone : (c : In_ok-supposed) → LoadsAlone c.args.seat.now c.supposed_on_cycle.new.seat
loads_alone c =
    all_loads c.args.seat.now c.own_event-event.new.seat c.collect.new.by c.supposed_on_cycle.new.seat c.own_event-event.ensures.seat c.collect.ensures.collected.goes_on
    c.supposed_on_cycle.ensures.goes_on

-- by the statuses that they give
given : (c : In_ok-supposed) (list : List Status) → c.in_ok-supposed.supposed ≡ Some list →
    Judges c.supposed_on_cycle.new.self.statuses (aim_at c.args.p.0 c.args.off) c.own_event-event.result list c.args.seat.now c.supposed_on_cycle.new.seat
given c list is =
    subst (JudgesOrExcludes c.supposed_on_cycle.new.self.statuses (aim_at c.args.p.0 c.args.off) c.own_event-event.result c.args.seat.now c.supposed_on_cycle.new.seat
    c.id-t.result.0)
    is (loads_tell c)

pub death_of-requires : goal.death_of-requires
death_of-requires c =
    subst IsInOrder (sym c.as_slice.ensures.items)
    (judged_in_order c.supposed_on_cycle.new.self.statuses c.in-Some.list (aim_at c.args.p.0 c.args.off) c.own_event-event.result c.args.seat.now c.supposed_on_cycle.new.seat
    c.id-t.ensures.seat.checked (given (goal.at.death_of-requires c).In_ok-supposed c.in-Some.list c.in-Some.is))

pub returns-in_ok-found-in-Some-clause-judged : goal.returns-in_ok-found-in-Some-clause-judged
returns-in_ok-found-in-Some-clause-judged c =
    judged_by c.supposed_on_cycle.new.self.statuses c.in-Some.list (aim_at c.args.p.0 c.args.off) c.own_event-event.result c.args.seat.now c.supposed_on_cycle.new.seat
    c.id-t.result.0
    c.id-t.ensures.seat c.id-t.ensures.task c.requires.before.locked c.requires.before.next
    (loads_alone (goal.at.returns-in_ok-found-in-Some-clause-judged c).In_ok-supposed) (given (goal.at.returns-in_ok-found-in-Some-clause-judged c).In_ok-supposed
    c.in-Some.list c.in-Some.is) c.in_ok-found-in-Some.found
    (subst (λ (ss : List Status). IsOutcome ss c.id-t.result.0 c.in_ok-found-in-Some.found) c.as_slice.ensures.items c.in_ok-found-in-Some.ensures)

pub returns-in-None-clause-judged : goal.returns-in-None-clause-judged
returns-in-None-clause-judged c =
    let aim = aim_at c.args.p.0 c.args.off in
    let now = c.supposed_on_cycle.new.seat in
    let list = c.supposed_on_cycle.new.self.statuses in
    let (supposed, judges, off) =
    subst (JudgesOrExcludes list aim c.own_event-event.result c.args.seat.now now c.id-t.result.0) c.in-None.is
    (loads_tell (goal.at.returns-in-None-clause-judged c).In_ok-supposed) in
    judged_off list supposed aim c.own_event-event.result c.args.seat.now now c.id-t.result.0 c.id-t.ensures.seat c.id-t.ensures.task c.requires.before.locked
    c.requires.before.next (loads_alone (goal.at.returns-in-None-clause-judged c).In_ok-supposed) judges off
