use Rattle.program_io.specs.calls.ExitNumbers.{number_of_status}
use Rattle.explain.specs.calls.Requested.{form_with}
use Rattle.explain.proofs.EndAvoided.{end_avoided, refusals_same}
use Rattle.explain.proofs.checked_text.CheckedText.avoid.Goals as goal

pub returns : goal.returns
returns c =
    let text = c.args.self.now in
    let facts = c.in_ok-facts.facts in
    let form = form_with text.file text.extent in
    let run = refusals_same form facts.places.now text.places.now facts.program.now text.program.now text.unfolded.plan c.in_ok-ran.ran
    c.in_ok-facts.ensures.facts.text c.in_ok-facts.ensures.facts.program c.in_ok-ran.ensures.run in
    record {
      avoided = end_avoided form text.places.now text.program.now text.unfolded.plan c.in_ok-ran.ran run
          c.requires.known.reads c.requires.known.plan c.in_ok-account.account c.in_ok-explanation.explanation (number_of_status c.status_of.result)
          c.in_ok-lines.lines c.in_ok-account.ensures.account c.in_ok-explanation.ensures c.in_ok-lines.ensures c.status_of.ensures;
    }
