use Rattle.std.proofs.Common.{arith, ap, subst, sym, length}
use Rattle.std.specs.Prelude.{Contains}
use Rattle.armus_base.specs.Plans.{Plan}
use Rattle.armus_base.specs.calls.Statuses.{IsInOrder}
use Rattle.board.specs.calls.Seats.{aim_at}
use Rattle.avoider.specs.calls.Decisions.{IsOutcome}
use Rattle.avoider.specs.inside.Followings.{HoldsOrOtherDead}
use Rattle.avoider.proofs.JudgedLists.{judged_in_order, judged_tasks}
use Rattle.avoider.proofs.ToldByLoads.{judged_by_order}
use Rattle.avoider.proofs.deciding_kept.judge_kept.Goals as goal

pub death_kept-requires-clause-in_order : goal.death_kept-requires-clause-in_order
death_kept-requires-clause-in_order c =
    let g = c.in_ok-gathered in
    subst IsInOrder (sym c.as_slice.ensures.items)
    (judged_in_order c.gather.new.cells.statuses g.gathered.list (aim_at c.args.p.0 c.args.off) g.gathered.event c.args.seat.now c.gather.new.seat c.id-t.ensures.seat.checked
    g.ensures.judges)

pub death_kept-requires-clause-tasks : goal.death_kept-requires-clause-tasks
death_kept-requires-clause-tasks c s m =
    let g = c.in_ok-gathered in
    let task =
    judged_tasks c.gather.new.cells.statuses g.gathered.list (aim_at c.args.p.0 c.args.off) g.gathered.event c.args.seat.now c.gather.new.seat c.id-t.ensures.seat.checked
    g.ensures.judges
    s (subst (λ ss. Contains ss s) c.as_slice.ensures.items m) in
    let plan = ap (λ (q : Plan). length q.parents) c.requires.before.made.plan in
    omega (arith, task, plan, c.requires.order)

pub returns-clause-judged : goal.returns-clause-judged
returns-clause-judged c =
    let g = c.in_ok-gathered in
    let told = subst (λ ss. IsOutcome ss c.id-t.result.0 c.in_ok-found.found) c.as_slice.ensures.items c.in_ok-found.ensures.outcome in
    let pairs = subst (λ ss. HoldsOrOtherDead ss c.args.order.now c.death_kept.new.order c.in_ok-found.found) c.as_slice.ensures.items c.in_ok-found.ensures.pairs in
    judged_by_order c.gather.new.cells.statuses g.gathered.list (aim_at c.args.p.0 c.args.off) g.gathered.event c.args.seat.now c.gather.new.seat c.id-t.result.0
    c.id-t.ensures.seat c.id-t.ensures.task c.requires.before.locked c.requires.before.next g.ensures.goes_on g.ensures.judges c.args.order.now c.death_kept.new.order
    c.in_ok-found.found told
    pairs
