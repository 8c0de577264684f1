use Rattle.std.proofs.Common.{◌+◌, List, subst, sym}
use Rattle.armus_base.specs.declared.ids.TaskId.{TaskId}
use Rattle.explain_avoid.specs.inside.Freed.{AreThoseBelow, IsFreed}
use Rattle.explain_avoid.proofs.Those.{none_below, those_more}
use Rattle.explain_avoid.proofs.refusal.freed.Goals as goal

pub loop-u-init : goal.loop-u-init
loop-u-init c =
    subst (λ (us : List TaskId). AreThoseBelow (IsFreed c.args.world.now c.args.phases.now) 0 us) (sym c.new-all.ensures.items)
    (none_below (IsFreed c.args.world.now c.args.phases.now))

pub loop-u-preserved : goal.loop-u-preserved
loop-u-preserved c =
    subst (λ (us : List TaskId). AreThoseBelow (IsFreed c.args.world.now c.args.phases.now) (c.loop-u.u + 1) us) (sym c.in_ok-push_if.ensures)
    (those_more (IsFreed c.args.world.now c.args.phases.now) c.loop-u.u c.loop-u.all.items c.loop-u.invariant c.is_freed-passes.result c.is_freed-passes.ensures.0
    c.is_freed-passes.ensures.1)
