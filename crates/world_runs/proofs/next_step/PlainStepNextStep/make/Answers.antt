use Rattle.std.proofs.Common.{inl, sym}
use Rattle.std.proofs.lemmas.Bool.{false≢true}
use Rattle.world_runs.proofs.Left.{step_leaves_less_left}
use Rattle.world_runs.proofs.PlainWorlds.{step_keeps_plain}
use Rattle.world_runs.proofs.next_step.PlainStepNextStep.make.Goals as goal

pub returns-clause-left : goal.returns-clause-left
returns-clause-left c =
    let step = c.step.ensures in
    record {
      plan = step.plan;
      kept = step_keeps_plain c.args.world.now c.step.new.self c.args.t.0 step c.requires.keeps;
      less = λ _. step_leaves_less_left c.args.world.now c.step.new.self c.args.t.0 step;
      still = λ e. absurd (false≢true (sym e));
    }

pub returns-clause-moved : goal.returns-clause-moved
returns-clause-moved c = inl c.step.ensures
