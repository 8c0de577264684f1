use Rattle.program_io.specs.calls.ExitNumbers.{number_of_status}
use Rattle.explain.specs.calls.Requested.{form_with}
use Rattle.explain.proofs.EndClockExplained.{clock_end_explained}
use Rattle.explain.proofs.checked_clocks.CheckedClocks.explain.Goals as goal

pub returns : goal.returns
returns c =
    let text = c.args.self.now in
    record {
      explains = clock_end_explained (form_with text.file text.extent) text.places.now text.program.now.body text.plan c.requires.known.reads c.requires.known.plan
          c.in_ok-ended.ended.world c.in_ok-ended.ensures.end.world c.in_ok-explanation.explanation (number_of_status c.status_of.result)
          c.in_ok-explanation.ensures c.status_of.ensures;
    }
