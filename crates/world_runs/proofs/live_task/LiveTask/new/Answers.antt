use Rattle.std.proofs.Common.{◌∙◌, ◌<◌, ap, length, subst, sym}
use Rattle.armus_base.specs.CheckedPlans.{IsCheckedPlan}
use Rattle.armus_base.specs.Plans.{Plan, code_of}
use Rattle.world_runs.proofs.live_task.LiveTask.new.Goals as goal

pub cursor-requires : goal.cursor-requires
cursor-requires g c = record { task = subst (λ (q : Plan). c.args.t.0 < length q.parents) (sym c.requires.plan) c.requires.task }

pub cursor-requires-2 : goal.cursor-requires-2
cursor-requires-2 g c = record { task = subst (λ (q : Plan). c.args.t.0 < length q.parents) (sym c.requires.plan) c.requires.task }

pub invariant_of-result : goal.invariant_of-result
invariant_of-result g c =
    let same = ap (λ (q : Plan). code_of q c.args.t.0) c.requires.plan in
    record {
      checked = subst IsCheckedPlan c.requires.plan c.tasks-tasks.ensures.checked;
      task = c.requires.task;
      left_is = c.cursor.ensures.code ∙ same;
      behind_is = c.cursor-2.ensures.code ∙ same;
    }
