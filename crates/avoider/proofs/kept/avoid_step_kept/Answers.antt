use Rattle.std.proofs.Common.{subst, sym}
use Rattle.armus_base.specs.CheckedPlans.{IsCheckedPlan}
use Rattle.pl_core.specs.calls.Worlds.{state_of}
use Rattle.avoider.proofs.Followed.{pairs_if_published}
use Rattle.avoider.proofs.SamePairs.{holds_all_phases}
use Rattle.avoider.proofs.SamePlan.{decided_plan}
use Rattle.avoider.proofs.Supposing.{phaser_of_await}
use Rattle.avoider.proofs.kept.avoid_step_kept.Goals as goal

pub death_in_world-requires-clause-phaser : goal.death_in_world-requires-clause-phaser
death_in_world-requires-clause-phaser c =
    let at = c.event_before-event.ensures in
    phaser_of_await c.args.world.now at.checked at.reachable c.args.t.0 c.event_before-event.result at.before

pub returns-clause-pairs : goal.returns-clause-pairs
returns-clause-pairs c =
    let at = c.event_before-event.ensures in
    holds_all_phases c.carry_out.new.world.plan (state_of c.carry_out.new.world) c.args.order.now c.death_in_world.new.order c.carry_out.result
    (subst IsCheckedPlan (sym (decided_plan c.args.world.now c.carry_out.new.world c.args.t.0 c.carry_out.result c.carry_out.ensures.decision)) at.checked)
    (pairs_if_published c.args.world.now at.checked at.reachable c.args.t.0 c.requires.before.task c.event_before-event.result c.requires.before.nobody at.before
    c.carry_out.new.world c.args.order.now c.death_in_world.new.order c.in_ok-found.found c.in_ok-found.ensures.pairs c.carry_out.result c.carry_out.ensures.as_found
    c.carry_out.ensures.decision)
