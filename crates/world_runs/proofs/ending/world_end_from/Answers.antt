use Rattle.std.proofs.Common.{◌∙◌, ap, subst, sym}
use Rattle.std.specs.Prelude.{slice_get}
use Rattle.armus_base.specs.CheckedPlans.{IsCheckedPlan}
use Rattle.world_runs.proofs.EndWorlds.{plain_world_end}
use Rattle.world_runs.proofs.ending.world_end_from.Goals as goal

pub end_by-requires-clause-keeps : goal.end_by-requires-clause-keeps
end_by-requires-clause-keeps g c κs within = λ t place is. c.requires.plain t place (ap (λ ps. slice_get ps t) (sym c.in_ok-world.ensures.at.places) ∙ is)

pub returns : goal.returns
returns g c =
    let at = c.in_ok-world.ensures.at in
    let by = c.in_ok-ended.ensures.end in
    record {
      end = plain_world_end c.args.plan.now c.in_ok-world.world c.in_ok-ended.ended at.plan_is by;
      checked = subst IsCheckedPlan (by.same_plan ∙ at.plan_is) by.checked;
    }
