use Rattle.std.proofs.Common.{List, ℕ, subst}
use Rattle.program_io.specs.calls.Passages.{passage}
use Rattle.explain.specs.calls.Requested.{form_named}
use Rattle.explain.specs.inside.Ending.{IsWrittenAnswerTo}
use Rattle.explain.proofs.SourceAnswers.{text_answers}
use Rattle.explain.proofs.answering.answer_source.Goals as goal

pub returns-in_ok-answer-in-Ok-clause-answers : goal.returns-in_ok-answer-in-Ok-clause-answers
returns-in_ok-answer-in-Ok-clause-answers g c =
    let form = form_named c.args.file c.args.extent in
    text_answers c.args.wanted form (passage g.S.Source.left g.S.Source.faults c.args.src.now c.read_all.new.src) c.in-Ok.text c.in_ok-answer-in-Ok.answer
    c.in-Ok.ensures.bytes
    (subst (λ (t : List ℕ). IsWrittenAnswerTo c.args.wanted form t c.in_ok-answer-in-Ok.answer) c.as_slice.ensures.items c.in_ok-answer-in-Ok.ensures.answers)
    c.in-Ok.ensures.told
