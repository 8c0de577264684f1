use Rattle.explain.specs.calls.Requested.{form_with}
use Rattle.explain.proofs.EndExplained.{waiters_stay}
use Rattle.explain.proofs.checked_text.CheckedText.standing.Goals as goal

pub explanation_of-requires-clause-rest : goal.explanation_of-requires-clause-rest
explanation_of-requires-clause-rest c =
    let text = c.args.self.now in
    waiters_stay (form_with text.file text.extent) text.places.now text.program.now text.unfolded.plan c.requires.known.reads c.requires.known.plan c.args.world.now c.requires.ended
