use Rattle.program_io.specs.calls.ExitNumbers.{number_of_status}
use Rattle.explain.specs.calls.Requested.{form_with}
use Rattle.explain.proofs.EndClockExplained.{clock_steps_explained, stepped_run}
use Rattle.explain.proofs.checked_clocks.CheckedClocks.steps.Goals as goal

pub standing-requires-clause-plan : goal.standing-requires-clause-plan
standing-requires-clause-plan c =
    let text = c.args.self.now in
    let known = c.requires.known in
    let run = stepped_run (form_with text.file text.extent) text.places.now text.program.now.body text.plan known.reads known.plan c.in_ok-ran.ran c.in_ok-ran.ensures.run in
    run.1.plan_is

pub standing-requires-clause-end : goal.standing-requires-clause-end
standing-requires-clause-end c =
    let text = c.args.self.now in
    let known = c.requires.known in
    let run = stepped_run (form_with text.file text.extent) text.places.now text.program.now.body text.plan known.reads known.plan c.in_ok-ran.ran c.in_ok-ran.ensures.run in
    run.1.end_is

pub returns : goal.returns
returns c =
    let text = c.args.self.now in
    record {
      steps = clock_steps_explained (form_with text.file text.extent) text.places.now text.program.now.body text.plan c.requires.known.reads c.requires.known.plan
          c.in_ok-ran.ran c.in_ok-ran.ensures.run c.in_ok-explanation.explanation (number_of_status c.in_ok-answer.answer.status) c.in_ok-answer.answer.lines
          c.in_ok-explanation.ensures c.in_ok-answer.ensures.status c.in_ok-answer.ensures.lines;
    }
