use Rattle.std.proofs.Common.{◌<◌, ◌∙◌, ℕ, List, [], Option, ap, arith, length, subst}
use Rattle.std.specs.Prelude.{slice_index_or}
use Rattle.armus_base.specs.Plans.{code_of}
use Rattle.armus_base.specs.Finals.{end_of}
use Rattle.armus_base.proofs.Below.{length-list_below}
use Rattle.armus_base.specs.Places.{done_by}
use Rattle.pl_core.specs.calls.Worlds.{places_of, state_of}
use Rattle.explain_clock.specs.ClockFacts.{IsWaitBy}
use Rattle.explain_clock.proofs.Told.{list_at, told_more}
use Rattle.explain_clock.proofs.waits.waits_of.Goals as goal

pub bounds-ends-t : goal.bounds-ends-t
bounds-ends-t c =
    let sized = ap length c.requires.ends ∙ length-list_below (end_of (state_of c.args.world.now)) (length c.args.world.now.plan.parents) in
    let same = c.tasks-t-end.ensures.counted ∙ ap (λ q. length q.parents) c.plan-plan.ensures.plan in
    omega (arith, c.loop-t-test.true, sized, same)

pub loop-t-preserved : goal.loop-t-preserved
unfolding state_of
loop-t-preserved c =
    let same = c.tasks-t-end.ensures.counted ∙ ap (λ q. length q.parents) c.plan-plan.ensures.plan in
    let within : c.loop-t.t < length c.args.world.now.plan.parents = omega (arith, c.loop-t-test.true, same) in
    let end = list_at (end_of (state_of c.args.world.now)) (length c.args.world.now.plan.parents) c.loop-t.t c.args.ends.now _ c.requires.ends within in
    told_more c.args.origins.now.waits c.args.ops.now c.args.world.now.plan (state_of c.args.world.now) (done_by (places_of c.args.world.now)) c.loop-t.t c.loop-t.all.items
    c.push.new.self.items c.in_ok-wait_by.field-0 c.loop-t.invariant c.in_ok-push.ensures.items
    (subst (λ (xs : List (Option ℕ)). IsWaitBy (code_of c.args.world.now.plan c.loop-t.t) (slice_index_or c.args.origins.now.waits c.loop-t.t []) xs (length c.args.world.now.plan.makers)
    (places_of c.args.world.now c.loop-t.t).done (end_of (state_of c.args.world.now) c.loop-t.t) c.in_ok-wait_by.field-0) c.ops_of-own.ensures
    (subst (λ x. IsWaitBy (code_of c.args.world.now.plan c.loop-t.t) (slice_index_or c.args.origins.now.waits c.loop-t.t []) c.ops_of-own.result.now (length c.args.world.now.plan.makers)
    (places_of c.args.world.now c.loop-t.t).done x c.in_ok-wait_by.field-0) end c.in_ok-wait_by.ensures))
