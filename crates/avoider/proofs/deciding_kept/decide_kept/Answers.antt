use Rattle.board.specs.calls.Seats.{aim_at}
use Rattle.avoider.proofs.Conclusions.{decided, holds_pairs, judged_alone, may_conclude}
use Rattle.avoider.proofs.deciding_kept.decide_kept.Goals as goal

pub conclude-requires-clause-may : goal.conclude-requires-clause-may
conclude-requires-clause-may c =
    let list = c.judge_kept-found.new.cells.statuses in
    let aim = aim_at c.args.p.0 c.args.off in
    may_conclude list aim c.args.seat.now c.judge_kept-found.new.seat c.id.result.0 c.id.ensures.seat c.id.ensures.task (c.id.ensures.seat.lock c.requires.before.locked)
    c.requires.before.locked c.requires.before.next c.judge_kept-found.ensures.goes_on
    c.judge_kept-found.result
    (judged_alone list aim c.args.seat.now c.judge_kept-found.new.seat c.args.order.now c.judge_kept-found.new.order c.judge_kept-found.result c.judge_kept-found.ensures.judged)

pub returns-clause-decision : goal.returns-clause-decision
returns-clause-decision c =
    let list = c.judge_kept-found.new.cells.statuses in
    let aim = aim_at c.args.p.0 c.args.off in
    decided list aim c.args.seat.now c.judge_kept-found.new.seat c.id.result.0 c.id.ensures.seat c.id.ensures.task (c.id.ensures.seat.lock c.requires.before.locked)
    c.requires.before.locked
    c.requires.before.next c.judge_kept-found.ensures.goes_on c.conclude.new.seat
    c.judge_kept-found.result
    (judged_alone list aim c.args.seat.now c.judge_kept-found.new.seat c.args.order.now c.judge_kept-found.new.order c.judge_kept-found.result c.judge_kept-found.ensures.judged)
    c.conclude.result c.conclude.ensures.concludes

pub returns-clause-pairs : goal.returns-clause-pairs
returns-clause-pairs c =
    holds_pairs c.judge_kept-found.new.cells.statuses (aim_at c.args.p.0 c.args.off) c.args.seat.now c.judge_kept-found.new.seat c.id.result.0 c.id.ensures.seat c.id.ensures.task
    (c.id.ensures.seat.lock c.requires.before.locked) c.requires.before.locked c.requires.before.next c.judge_kept-found.ensures.goes_on c.conclude.new.seat
    c.args.order.now c.judge_kept-found.new.order c.judge_kept-found.result c.judge_kept-found.ensures.judged c.conclude.result c.conclude.ensures.concludes
