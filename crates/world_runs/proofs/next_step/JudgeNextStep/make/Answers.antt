use Rattle.std.proofs.Common.{sym}
use Rattle.std.proofs.lemmas.Bool.{false≢true}
use Rattle.avoider.proofs.SamePlan.{gone_on_plan}
use Rattle.world_runs.proofs.HasMoved.{gone_on_moved}
use Rattle.world_runs.proofs.Left.{gone_on_leaves_less}
use Rattle.world_runs.proofs.next_step.JudgeNextStep.make.Goals as goal

pub returns-clause-left : goal.returns-clause-left
returns-clause-left c =
    let gone = c.in_ok-go_on.ensures.goes_on in
    record {
      plan = gone_on_plan c.args.world.now c.go_on.new.world c.args.t.0 gone;
      kept = c.go_on.ensures.nobody;
      less = λ _. gone_on_leaves_less c.args.world.now c.go_on.new.world c.requires.checked c.requires.reachable c.args.t.0 gone;
      still = λ e. absurd (false≢true (sym e));
    }

pub returns-clause-moved : goal.returns-clause-moved
returns-clause-moved c = gone_on_moved c.args.world.now c.go_on.new.world c.args.t.0 c.in_ok-go_on.ensures.goes_on
