use Rattle.board.specs.calls.Seats.{aim_at}
use Rattle.avoider.proofs.Conclusions.{decided, may_conclude}
use Rattle.avoider.proofs.deciding.decide.Goals as goal

pub conclude-requires-clause-may : goal.conclude-requires-clause-may
conclude-requires-clause-may c =
    may_conclude c.judge-found.new.cells.statuses (aim_at c.args.p.0 c.args.off) c.args.seat.now c.judge-found.new.seat c.id.result.0 c.id.ensures.seat c.id.ensures.task
    (c.id.ensures.seat.lock c.requires.before.locked) c.requires.before.locked c.requires.before.next c.judge-found.ensures.goes_on
    c.judge-found.result c.judge-found.ensures.judged

pub returns-clause-decision : goal.returns-clause-decision
returns-clause-decision c =
    decided c.judge-found.new.cells.statuses (aim_at c.args.p.0 c.args.off) c.args.seat.now c.judge-found.new.seat c.id.result.0 c.id.ensures.seat c.id.ensures.task
    (c.id.ensures.seat.lock c.requires.before.locked) c.requires.before.locked c.requires.before.next c.judge-found.ensures.goes_on c.conclude.new.seat
    c.judge-found.result c.judge-found.ensures.judged c.conclude.result c.conclude.ensures.concludes
