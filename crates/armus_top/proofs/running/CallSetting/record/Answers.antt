use Rattle.std.proofs.Common.{subst, sym}
use Rattle.armus_top.specs.Records.{IsRecordOf}
use Rattle.program_io.proofs.OnePlan.{checked_plan}
use Rattle.armus_top.proofs.Reporting.{plain_end_in_order}
use Rattle.armus_top.proofs.RecordedTexts.{record_of}
use Rattle.armus_top.proofs.running.CallSetting.record.Goals as goal

pub any_dead-requires : goal.any_dead-requires
any_dead-requires g c = plain_end_in_order c.args.plan.now _ (checked_plan _ _ c.requires.plan) c.in_ok-end.ensures.recorded.end

pub returns : goal.returns
returns g c =
    record {
      «record» = subst (λ n. IsRecordOf c.args.text.now n c.in_ok-text.text) (sym c.status_of-status.ensures)
          (record_of c.args.text.now c.args.plan.now _ _ _ _ _ (checked_plan _ _ c.requires.plan) c.in_ok-end.ensures.recorded c.as_slice.ensures.items
          c.in_ok-any_dead.ensures c.in_ok-text.ensures.record c.requires.plan);
    }
