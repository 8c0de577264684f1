use Rattle.std.proofs.Common.{◌∙◌, inl}
use Rattle.clock_pl.specs.ClockLines.{clock_fault_line}
use Rattle.program_io.specs.calls.Passages.{passage}
use Rattle.program_io.specs.calls.ExitNumbers.{number_of_status}
use Rattle.armus_top.proofs.Ending.{finished_as}
use Rattle.armus_top.proofs.writing.refuse_clocks.Goals as goal

pub returns-in-Ok-clause-done : goal.returns-in-Ok-clause-done
returns-in-Ok-clause-done g c =
    let fault = c.args.fault.now in
    inl (finished_as (passage g.K.Sink.taken g.K.Sink.faults c.args.out.now c.finish.new.out) (clock_fault_line fault.kind fault.statement)
    c.as_slice.result.now 3 (number_of_status c.finish.result) (c.as_slice.ensures.items ∙ c.in-Ok.ensures) c.finish.ensures.done)
