use Rattle.std.proofs.Common.{◌∙◌, Some, ap}
use Rattle.world_runs.proofs.Codes.{child_is_task, next_behind, next_there}
use Rattle.world_runs.proofs.live_task.LiveTask.next_behind.Goals as goal

pub invariant_of-self-2 : goal.invariant_of-self-2
invariant_of-self-2 g c =
    let i = c.self.invariant in
    record {
      checked = i.checked;
      task = i.task;
      left_is = i.left_is;
      behind_is = next_behind g.N.PlanName.plan c.self.inside.t.0 c.self.inside.turn_from c.self.inside.behind c.next.new.self c.in_ok-op.op i.behind_is c.in_ok-op.ensures.some;
    }

pub returns-clause-child : goal.returns-clause-child
returns-clause-child g c = λ d is.
    let i = c.self.invariant in
    child_is_task g.N.PlanName.plan c.self.inside.t.0 c.self.inside.turn_from d i.checked
    (next_there g.N.PlanName.plan c.self.inside.t.0 c.self.inside.turn_from c.self.inside.behind c.next.new.self c.in_ok-op.op i.behind_is c.in_ok-op.ensures.some ∙ ap Some is)
