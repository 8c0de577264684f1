use Rattle.std.proofs.Common.{◌∙◌, subst}
use Rattle.pl_generator.specs.Generated.{generated_text}
use Rattle.adaptive.specs.declared.analysis.Wanted.TheVariants as wanted
use Rattle.program_io.specs.Programs.{IsPlanOf}
use Rattle.armus_top.proofs.GeneratedRuns.{with_plan}
use Rattle.armus_top.proofs.running.CallSetting.run_generated.Goals as goal

pub returns : goal.returns
returns g c =
    let plan = c.in-Ok.checked.plan in
    let plan_is = subst (λ t. IsPlanOf t plan) (c.as_slice.ensures.items ∙ c.in_ok-text.ensures.text) (c.in-Ok.checked.program, c.in-Ok.ensures.plan) in
    record { run = with_plan (generated_text c.args.count) plan wanted.Auto c.run.result plan_is c.run.ensures.run }
