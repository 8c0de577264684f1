use Rattle.std.proofs.Common.{refl, subst, sym}
use Rattle.command_line.specs.declared.command.Command.TheVariants.{Clock, Run}
use Rattle.program_io.specs.Programs.{IsFaultOf}
use Rattle.armus_top.specs.inside.Answers.{IsEndOf}
use Rattle.armus_top.proofs.Answering.{end_of_clocks, end_of_text}
use Rattle.armus_top.proofs.Served.{live_clock, live_run}
use Rattle.armus_top.proofs.running.CallSetting.serve_live.Goals as goal

pub returns-in-Ok-clause-done : goal.returns-in-Ok-clause-done
returns-in-Ok-clause-done g c =
    live_run c.args.command.now c.in-Run.workers c.in-Run.graph c.in-Run.kind c.args.input.now c.in-Ok.plan c.options_of-options.result.wanted _ _ c.in-Run.is
    c.requires.live c.in-Ok.ensures.plan c.options_of-options.ensures.wanted c.run_live.ensures.done

pub returns-in-Err : goal.returns-in-Err
returns-in-Err g c =
    let command = c.args.command.now in
    let input = c.args.input.now in
    let end = c.in-Err.end in
    let wrote = c.write_answer.ensures in
    let is = subst (λ d. IsEndOf d input end) (sym c.in-Run.is)
    (end_of_text (Run c.in-Run.workers c.in-Run.graph c.in-Run.kind) input (IsFaultOf input) end (λ why is. (why, is, refl)) c.in-Err.ensures.refused) in
    record { done = wrote.done command input is; silent = wrote.silent command input is }

pub returns-in-Ok-clock_plan_in-clause-done : goal.returns-in-Ok-clock_plan_in-clause-done
returns-in-Ok-clock_plan_in-clause-done g c =
    let options = c.options_of-options-in-Ok-clock_plan_in in
    live_clock c.args.command.now c.in-Clock.workers c.in-Clock.graph c.in-Clock.live c.args.input.now c.in-Ok-clock_plan_in.plan options.result.wanted _ _
    c.in-Clock.is c.requires.live c.in-Ok-clock_plan_in.ensures.plan options.ensures.wanted c.run_live-in-Ok-clock_plan_in.ensures.done

pub returns-in-Err-clock_plan_in : goal.returns-in-Err-clock_plan_in
returns-in-Err-clock_plan_in g c =
    let command = c.args.command.now in
    let input = c.args.input.now in
    let end = c.in-Err-clock_plan_in.end in
    let wrote = c.write_answer-in-Err-clock_plan_in.ensures in
    let is = subst (λ d. IsEndOf d input end) (sym c.in-Clock.is)
    (end_of_clocks c.in-Clock.workers c.in-Clock.graph c.in-Clock.live input end c.in-Err-clock_plan_in.ensures.refused) in
    record { done = wrote.done command input is; silent = wrote.silent command input is }
