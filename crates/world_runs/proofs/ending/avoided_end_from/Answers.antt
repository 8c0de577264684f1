use Rattle.std.proofs.Common.{subst, true}
use Rattle.armus_base.specs.CheckedPlans.{IsCheckedPlan}
use Rattle.armus_base.proofs.BoardRuns.{lawful_is_reachable}
use Rattle.world_runs.proofs.AvoidedRests.{avoided_end, avoided_nobody, avoided_there}
use Rattle.world_runs.proofs.ending.avoided_end_from.Goals as goal

pub at-requires-clause-reachable : goal.at-requires-clause-reachable
at-requires-clause-reachable g c = lawful_is_reachable true c.args.plan.now _ c.requires.lawful.0 c.requires.lawful.1

pub end_by-requires-clause-keeps : goal.end_by-requires-clause-keeps
end_by-requires-clause-keeps g c κs within =
    let at = c.in_ok-world.ensures.at in
    avoided_nobody c.args.plan.now c.in_ok-world.world (subst IsCheckedPlan at.plan_is c.plan-plan.ensures.checked)
    (avoided_there c.args.plan.now c.args.places.now c.in_ok-world.world at c.requires.lawful.0 c.requires.lawful.1)

pub returns : goal.returns
returns g c =
    let run = avoided_there c.args.plan.now c.args.places.now c.in_ok-world.world c.in_ok-world.ensures.at c.requires.lawful.0 c.requires.lawful.1 in
    record { end = avoided_end c.args.plan.now c.in_ok-world.world c.in_ok-ended.ended run c.in_ok-ended.ensures.end }
