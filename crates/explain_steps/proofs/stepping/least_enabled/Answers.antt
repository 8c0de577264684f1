use Rattle.std.proofs.Common.{◌∙◌, arith, length, sym}
use Rattle.std.proofs.lemmas.Bool.{false≢true}
use Rattle.explain_steps.proofs.LeastInQueue.{nobody_below, nobody_more}
use Rattle.explain_steps.proofs.stepping.least_enabled.Goals as goal

pub returns-then-enabled-clause-least : goal.returns-then-enabled-clause-least
returns-then-enabled-clause-least c =
    let inv = c.ready.invariant in
    let w = c.args.world.now in
    let plan = c.plan-plan.ensures in
    let found = c.in-Some.ensures in
    let within = found.inside w w inv.queue in (
      within,
      c.enabled.ensures.enabled.0 c.if-enabled.true,
      nobody_below w c.ready.queue c.ready.from c.in-Some.t.0 plan.checked plan.reachable inv.queue (omega (arith, within)) inv.before found.next.2,
    )

pub ready-preserved : goal.ready-preserved
ready-preserved c =
    let inv = c.ready.invariant in
    let w = c.args.world.now in
    let plan = c.plan-plan.ensures in
    let found = c.in-Some.ensures in
    let t = c.in-Some.t.0 in
    let within = found.inside w w inv.queue in
    let below = nobody_below w c.ready.queue c.ready.from t plan.checked plan.reachable inv.queue (omega (arith, within)) inv.before found.next.2 in
    record {
      within = omega (arith, within);
      queue = c.in_ok-turn_ended.ensures w found.next.1 inv.queue;
      before = nobody_more w t below (λ on. absurd (false≢true (sym c.if-enabled.false ∙ c.enabled.ensures.enabled.1 on)));
    }

pub returns-clause-least : goal.returns-clause-least
returns-clause-least c =
    let inv = c.ready.invariant in
    let w = c.args.world.now in
    let plan = c.plan-plan.ensures in
    nobody_below w c.ready.queue c.ready.from (length w.plan.parents) plan.checked plan.reachable inv.queue (omega arith) inv.before
    (λ u a l. c.in_default.ensures.next u a)
