use Rattle.std.proofs.lemmas.Result.{err_from_is_err_and}
use Rattle.sites.specs.inside.Reading.{items_at, status_at}
use Rattle.sites.proofs.Loop.{goes_on, ends, is_done}
use Rattle.sites.proofs.reading.statuses_of.Goals as goal

pub returns-in_err-status : goal.returns-in_err-status
returns-in_err-status c =
    let p = err_from_is_err_and c.from_residual.result c.from_residual.ensures.1 in
    rw (p.1, p.2) (ends status_at c.in_err-status.field-0.0 c.loop.statuses.items c.args.count c.loop.counter c.loop.rest.now
    (items_at status_at c.args.count c.args.bytes.now) c.loop-test.true c.in_err-status.ensures c.loop.invariant)

pub loop-preserved : goal.loop-preserved
loop-preserved c =
    rw c.in_ok-push.ensures.items (goes_on status_at c.loop.statuses.items c.args.count c.loop.counter c.loop.rest.now c.in_ok-status.status c.in_ok-status.after.now
    (items_at status_at c.args.count c.args.bytes.now) c.loop-test.true c.in_ok-status.ensures c.loop.invariant)

pub returns : goal.returns
returns c = is_done status_at c.loop.statuses.items c.args.count c.loop.counter c.loop.rest.now (items_at status_at c.args.count c.args.bytes.now) c.loop-test.false
    c.loop.invariant
