use Rattle.std.proofs.Common.{subst, sym}
use Rattle.armus_top.specs.Avoids.{IsAvoidOf}
use Rattle.armus_top.proofs.AvoidedReports.{avoid_of, avoided_end_in_order}
use Rattle.armus_top.proofs.running.CallSetting.avoid.Goals as goal

pub report-requires : goal.report-requires
report-requires g c = avoided_end_in_order c.args.plan.now _ c.requires.checked c.in_ok-end.ensures.end

pub returns : goal.returns
returns g c = record {
  run = λ input plan_is.
      subst (λ n. IsAvoidOf input c.args.options.now.workers c.args.options.now.wanted n c.in_ok-text.text) (sym c.status_of-status.ensures)
      (avoid_of input c.args.plan.now c.args.options.now.wanted _ _ _ plan_is c.any_refused.ensures c.in_ok-text.ensures c.args.options.now.workers
      c.in_ok-end.ensures.end
      c.in_ok-end.ensures.serial);
}
