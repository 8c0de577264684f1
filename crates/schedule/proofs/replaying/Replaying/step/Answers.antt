use Rattle.std.proofs.Common.{◌∙◌, ◌+◌, ap, refl, arith, add-one}
use Rattle.schedule.specs.Replays.{strange_task, stuck_task}
use Rattle.schedule.proofs.LineByLine.{enabled_from, step_follows}
use Rattle.schedule.proofs.replaying.Replaying.step.Goals as goal

pub returns-then-t-tasks : goal.returns-then-t-tasks
returns-then-t-tasks c = record { taken = λ a of. strange_task c.args.t.0 (let l = c.if-t-tasks.true in let n = c.tasks.ensures.counted in omega arith) }

pub returns-then-not-enabled : goal.returns-then-not-enabled
returns-then-not-enabled c =
    record {
      taken = λ a of. stuck_task c.args.t.0 (let l = c.if-t-tasks.false in let n = c.tasks.ensures.counted in omega arith)
          (λ x next. let enabled = enabled_from c.args.plan.now c.args.self.now.world a.run c.args.t.0 x of.plan_is of.at next in
          let off = c.if-not-enabled.true in let on = c.enabled.ensures.enabled.1 enabled in cc);
    }

pub returns : goal.returns
returns c =
    record {
      taken = λ a of.
          let (x, next, at) = step_follows c.args.plan.now c.args.self.now.world c.step.new.self a.run c.args.t.0 of.plan_is of.at c.step.ensures in (
            _,
            (x, next, refl),
            record { plan_is = c.step.ensures.plan ∙ of.plan_is; at = at; open_pass = of.open_pass; verdicts = of.verdicts; steps = ap (λ k. k + 1) of.steps ∙ add-one _ },
          );
    }
