use Rattle.task_runner.specs.calls.DetectRuns.{told}
use Rattle.program_io.specs.calls.ExitNumbers.{number_of_status}
use Rattle.armus_top.proofs.Ending.{finished_as}
use Rattle.armus_top.proofs.LiveRuns.{between, reported, unreported, unwritten, wanted_memory}
use Rattle.armus_top.proofs.Reporting.{plain_end_in_order}
use Rattle.armus_top.proofs.running.CallSetting.run_live.Goals as goal

pub reported-requires : goal.reported-requires
reported-requires g c = record { in_order = plain_end_in_order c.args.plan.now _ c.requires.checked c.in-Ok.ensures.ran.end }

pub returns-in-Ok-reported-clause-done : goal.returns-in-Ok-reported-clause-done
returns-in-Ok-reported-clause-done g c =
    let telling = told g.K.Sink.taken g.K.Sink.faults in
    let now = telling c.run_detect.new.out in
    let after = telling c.finish.new.out in
    let report = c.in-Ok-reported.report in
    reported c.args.plan.now c.requires.checked c.args.options.now.wanted (telling c.args.out.now) now after (number_of_status c.finish.result) c.in-Ok.ran report
    c.in-Ok.ensures.ran.end
    (c.in-Ok.ensures.told c.requires.live)
    c.in-Ok-reported.ensures.report
    (finished_as (between now after) report.text c.as_slice.result.now (number_of_status report.status) (number_of_status c.finish.result) c.as_slice.ensures.items
    c.finish.ensures.done)

pub returns-in-Ok-clause-done : goal.returns-in-Ok-clause-done
returns-in-Ok-clause-done g c =
    let telling = told g.K.Sink.taken g.K.Sink.faults in
    unreported c.args.plan.now c.requires.checked c.args.options.now.wanted (telling c.args.out.now) (telling c.run_detect.new.out) c.in-Ok.ran
    c.in-Ok.ensures.ran.end
    (c.in-Ok.ensures.told c.requires.live)

pub returns-in-Err-Write-clause-done : goal.returns-in-Err-Write-clause-done
returns-in-Err-Write-clause-done g c =
    let telling = told g.K.Sink.taken g.K.Sink.faults in
    let tells = rw c.in-Err-Write.field-0-is at c.in-Err-Write.ensures.told in
    unwritten c.args.plan.now c.requires.checked c.args.options.now.wanted (telling c.args.out.now) (telling c.run_detect.new.out) (tells c.requires.live)

pub returns-clause-done : goal.returns-clause-done
returns-clause-done g c =
    let telling = told g.K.Sink.taken g.K.Sink.faults in
    let tells = rw c.in-Err-NoMemory.field-0-is at c.in-Err-NoMemory.ensures.told in
    wanted_memory c.args.plan.now c.requires.checked c.args.options.now.wanted (telling c.args.out.now) (telling c.run_detect.new.out) (tells c.requires.live)
