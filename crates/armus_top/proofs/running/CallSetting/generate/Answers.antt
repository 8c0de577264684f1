use Rattle.std.proofs.Common.{subst, sym}
use Rattle.armus_top.specs.Generated.{IsFirstAndLast}
use Rattle.armus_top.specs.inside.TwoLines.{HasTwoLines}
use Rattle.armus_top.proofs.TwoLines.{report_has_two}
use Rattle.armus_top.proofs.running.CallSetting.generate.Goals as goal

pub first_and_last-requires : goal.first_and_last-requires
first_and_last-requires g c =
    record { lines = subst HasTwoLines (sym c.as_slice.ensures.items) (report_has_two _ _ c.in_ok-report.report.text c.in_ok-report.ensures.run.2.report_is) }

pub returns : goal.returns
returns g c =
    let run = c.in_ok-report.ensures.run in
    record {
      run = record {
        plan = run.0;
        plan_is = run.1;
        report = c.in_ok-report.report.text;
        run = run.2;
        short = subst (λ t. IsFirstAndLast t c.in_ok-text.text) c.as_slice.ensures.items c.in_ok-text.ensures.text;
      };
    }
