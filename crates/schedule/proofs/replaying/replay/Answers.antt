use Rattle.std.proofs.Common.{sym, subst, arith, Err}
use Rattle.schedule.specs.Replays.{at_start, no_line}
use Rattle.schedule.specs.calls.Replaying.{Replays}
use Rattle.schedule.proofs.LineByLine.{run_grows, leads_more, ends_at}
use Rattle.schedule.proofs.replaying.replay.Goals as goal

pub loop-at-init : goal.loop-at-init
loop-at-init c = (let none = c.in_ok-replay.ensures.start.steps in (omega arith, at_start, no_line, c.in_ok-replay.ensures.start))

pub loop-at-preserved : goal.loop-at-preserved
loop-at-preserved c =
    let (few, a, leads, of) = c.loop-at.invariant in
    let (b, takes, is) = c.in-Ok.ensures.taken a of in
    let grows = run_grows c.args.plan.now a _ b takes in
    let before = of.steps in
    let after = is.steps in
    (omega arith, b, leads_more c.args.plan.now c.args.lines.now c.loop-at.at _ a b c.loop-at-test.true leads takes, is)

pub returns-in-Err : goal.returns-in-Err
returns-in-Err c =
    let (few, a, leads, of) = c.loop-at.invariant in
    record {
      replays = subst (λ e. Replays c.args.plan.now c.args.lines.now (Err e)) (sym c.end_at.ensures)
          (ends_at c.args.plan.now c.args.lines.now c.loop-at.at _ a c.take.new.self _ c.loop-at-test.true leads (c.in-Err.ensures.taken a of));
    }
