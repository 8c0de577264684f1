use Rattle.std.proofs.Common.{◌<◌, ◌∙◌, ap, arith, length, sym}
use Rattle.armus_base.specs.Finals.{end_of}
use Rattle.armus_base.specs.Places.{done_by}
use Rattle.armus_base.proofs.Below.{length-list_below}
use Rattle.pl_core.specs.calls.Worlds.{places_of, state_of}
use Rattle.explain_facts.specs.calls.Known.{kept_layout}
use Rattle.explain_facts.proofs.Told.{list_at, told_more}
use Rattle.explain_facts.proofs.accounts.task_accounts.Goals as goal

pub bounds-ends-t : goal.bounds-ends-t
bounds-ends-t c =
    let sized = ap length c.requires.ends ∙ length-list_below (end_of (state_of c.args.world.now)) (length c.args.world.now.plan.parents) in
    let same = c.tasks-t-end.ensures.counted ∙ ap (λ q. length q.parents) c.plan-plan.ensures.plan in
    omega (arith, c.loop-t-test.true, sized, same)

pub task_account-requires-clause-end : goal.task_account-requires-clause-end
task_account-requires-clause-end c =
    let same = c.tasks-t-end.ensures.counted ∙ ap (λ q. length q.parents) c.plan-plan.ensures.plan in
    let within : c.loop-t.t < length c.args.world.now.plan.parents = omega (arith, c.loop-t-test.true, same) in
    sym (list_at (end_of (state_of c.args.world.now)) (length c.args.world.now.plan.parents) c.loop-t.t c.args.ends.now _ c.requires.ends within)

pub loop-t-preserved : goal.loop-t-preserved
loop-t-preserved c =
    told_more (kept_layout c.args.facts.now) c.args.facts.now.program.now c.args.world.now.plan (state_of c.args.world.now) (done_by (places_of c.args.world.now)) c.loop-t.t c.loop-t.all.items
    c.push.new.self.items c.in_ok-task_account.field-0 c.loop-t.invariant c.in_ok-push.ensures.items c.in_ok-task_account.ensures
