use Rattle.armus_top.proofs.Served.{answered_clock, answered_run}
use Rattle.armus_top.proofs.running.CallSetting.answer.Goals as goal

pub returns-in_ok-run-in-Run-clause-answer : goal.returns-in_ok-run-in-Run-clause-answer
returns-in_ok-run-in-Run-clause-answer g c =
    answered_run c.args.command.now c.in-Run.workers c.in-Run.graph c.in-Run.kind c.args.input.now c.in_ok-plan-in-Run.plan c.options_of-options.result.wanted _ _
    c.in-Run.is c.requires.quiet c.in_ok-plan-in-Run.ensures.plan c.options_of-options.ensures.wanted c.in_ok-run-in-Run.ensures.run

pub returns-in_ok-run-in-Clock-clause-answer : goal.returns-in_ok-run-in-Clock-clause-answer
returns-in_ok-run-in-Clock-clause-answer g c =
    let options = c.options_of-options-in-Clock in
    answered_clock c.args.command.now c.in-Clock.workers c.in-Clock.graph c.in-Clock.live c.args.input.now c.in_ok-plan-in-Clock.plan options.result.wanted _ _
    c.in-Clock.is c.requires.quiet c.in_ok-plan-in-Clock.ensures.plan options.ensures.wanted c.in_ok-run-in-Clock.ensures.run
