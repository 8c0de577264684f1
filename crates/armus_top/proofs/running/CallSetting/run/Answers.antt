use Rattle.armus_top.proofs.Reporting.{plain_end_in_order, reports_run}
use Rattle.armus_top.proofs.running.CallSetting.run.Goals as goal

pub reported-requires : goal.reported-requires
reported-requires g c = record { in_order = plain_end_in_order c.args.plan.now _ c.requires.checked c.in_ok-end.ensures.end }

pub returns : goal.returns
returns g c = record { run = reports_run c.args.plan.now c.args.options.now.wanted _ c.reported.result c.requires.checked c.in_ok-end.ensures.end c.reported.ensures.report }
