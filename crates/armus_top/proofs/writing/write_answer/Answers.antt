use Rattle.std.proofs.Common.{arith, subst}
use Rattle.program_io.specs.calls.Passages.{passage}
use Rattle.armus_top.specs.inside.Answers.{AnswersBy}
use Rattle.program_io.specs.calls.ExitNumbers.{number_of_status}
use Rattle.armus_top.proofs.Answering.{by_output}
use Rattle.armus_top.proofs.Ending.{finished_as}
use Rattle.armus_top.proofs.Inputs.{answered_small}
use Rattle.armus_top.proofs.writing.write_answer.Goals as goal

pub returns-in-Ok-clause-done : goal.returns-in-Ok-clause-done
returns-in-Ok-clause-done g c command input is =
    by_output command input c.in-Ok.output _ _ (subst (AnswersBy command input) c.in-Ok.is is)
    (finished_as (passage g.K.Sink.taken g.K.Sink.faults c.args.out.now c.finish.new.out) c.in-Ok.output.text c.as_slice.result.now
    (number_of_status c.in-Ok.output.status) (number_of_status c.finish.result) c.as_slice.ensures.items c.finish.ensures.done)

pub returns-in-Ok-clause-silent : goal.returns-in-Ok-clause-silent
returns-in-Ok-clause-silent g c command input is four =
    let small = answered_small command input c.in-Ok.output.text (number_of_status c.in-Ok.output.status) (subst (AnswersBy command input) c.in-Ok.is is) in
    let same = c.finish.ensures.status four in
    absurd (omega arith)

pub returns-in-Ok-clause-unwritten : goal.returns-in-Ok-clause-unwritten
returns-in-Ok-clause-unwritten g c command input is six =
    let small = answered_small command input c.in-Ok.output.text (number_of_status c.in-Ok.output.status) (subst (AnswersBy command input) c.in-Ok.is is) in
    let same = c.finish.ensures.memory six in
    absurd (omega arith)

pub returns-in-Err-clause-done : goal.returns-in-Err-clause-done
returns-in-Err-clause-done g c command input is = c.write_end.ensures.done command input (subst (AnswersBy command input) c.in-Err.is is)
