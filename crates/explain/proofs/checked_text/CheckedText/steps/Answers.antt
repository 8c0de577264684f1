use Rattle.program_io.specs.calls.ExitNumbers.{number_of_status}
use Rattle.explain.specs.calls.Requested.{form_with}
use Rattle.explain.proofs.EndExplained.{stepped_explained, stepped_same, stepped_world}
use Rattle.explain.proofs.checked_text.CheckedText.steps.Goals as goal

pub standing-requires-clause-ended : goal.standing-requires-clause-ended
standing-requires-clause-ended c =
    let text = c.args.self.now in
    let facts = c.in_ok-facts.facts in
    stepped_world facts.places.now facts.program.now text.unfolded.plan c.in_ok-ran.ran c.in_ok-ran.ensures.run

pub returns : goal.returns
returns c =
    let text = c.args.self.now in
    let facts = c.in_ok-facts.facts in
    let run = stepped_same facts.places.now text.places.now facts.program.now text.program.now text.unfolded.plan c.in_ok-ran.ran
    c.in_ok-facts.ensures.facts.text c.in_ok-facts.ensures.facts.program c.in_ok-ran.ensures.run in
    record {
      steps = stepped_explained (form_with text.file text.extent) text.places.now text.program.now text.unfolded.plan c.requires.known.reads c.requires.known.plan
          c.in_ok-ran.ran run c.in_ok-explanation.explanation (number_of_status c.in_ok-answer.answer.status) c.in_ok-answer.answer.lines
          c.in_ok-explanation.ensures c.in_ok-answer.ensures.status c.in_ok-answer.ensures.lines;
    }
