use Rattle.std.proofs.Common.{◌+◌, refl, subst}
use Rattle.std.specs.Prelude.{Option}
use Rattle.armus_base.specs.declared.ids.TaskId.{TaskId}
use Rattle.explain_steps.specs.inside.LeastEnabled.{IsLeastEnabled}
use Rattle.explain_steps.proofs.GoingOn.{one_more}
use Rattle.explain_steps.proofs.stepping.Stepping.go_on.Goals as goal

pub returns-in_ok-step_on-in-Some-clause-moved : goal.returns-in_ok-step_on-in-Some-clause-moved
returns-in_ok-step_on-in-Some-clause-moved g c = λ on h so_far.
    let least = subst (λ (o : Option TaskId). IsLeastEnabled c.args.self.now.world o) c.in-Some.is c.in_ok-found.ensures.least in
    one_more (g.T.TellsSteps.words c.args.text.now) c.args.self.now
    (record { world = c.step_on.new.world; lines = c.show.new.out; steps = c.args.self.now.steps + 1 }) c.in-Some.t.0 h so_far
    c.in_ok-step_on-in-Some.ensures.step least.2 refl c.in_ok-show-in-Some.ensures.shown c.in_ok-show-in-Some.ensures.rest
