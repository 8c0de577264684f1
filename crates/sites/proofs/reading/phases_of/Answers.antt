use Rattle.std.proofs.lemmas.Result.{err_from_is_err_and}
use Rattle.sites.specs.inside.Reading.{items_at, phase_at}
use Rattle.sites.proofs.Loop.{goes_on, ends, is_done}
use Rattle.sites.proofs.reading.phases_of.Goals as goal

pub returns-in_err-phase : goal.returns-in_err-phase
returns-in_err-phase c =
    let p = err_from_is_err_and c.from_residual.result c.from_residual.ensures.1 in
    rw (p.1, p.2) (ends phase_at c.in_err-phase.field-0.0 c.loop.phases.items c.args.count c.loop.counter c.loop.rest.now (items_at phase_at c.args.count c.args.bytes.now)
    c.loop-test.true c.in_err-phase.ensures c.loop.invariant)

pub loop-preserved : goal.loop-preserved
loop-preserved c =
    rw c.in_ok-push.ensures.items (goes_on phase_at c.loop.phases.items c.args.count c.loop.counter c.loop.rest.now c.in_ok-phase.phase c.in_ok-phase.after.now
    (items_at phase_at c.args.count c.args.bytes.now) c.loop-test.true c.in_ok-phase.ensures c.loop.invariant)

pub returns : goal.returns
returns c = is_done phase_at c.loop.phases.items c.args.count c.loop.counter c.loop.rest.now (items_at phase_at c.args.count c.args.bytes.now) c.loop-test.false c.loop.invariant
