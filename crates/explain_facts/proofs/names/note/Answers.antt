use Rattle.std.proofs.Common.{◌∙◌, ap, not}
use Rattle.std.proofs.lemmas.Result.{on_ok_weaker}
use Rattle.explain_facts.specs.inside.Spelled.{spellings}
use Rattle.explain_facts.proofs.NamesSeen.{any_spelled, noted, spelled_with}
use Rattle.explain_facts.proofs.names.note.Goals as goal

pub returns : goal.returns
returns c =
    let x = c.args.name.now in
    let keys = c.args.seen.now.keys in
    on_ok_weaker c.note_again.result
    (λ more. λ come old.
    noted come (spellings keys) (spellings c.args.again.now.keys) (spellings c.insert_full.new.self.keys) (spellings c.note_again.new.again.keys) x
    c.in_ok-is_new.is_new (c.in_ok-is_new.ensures.added ∙ ap not (any_spelled x keys)) (ap spellings c.in_ok-is_new.ensures.keys ∙ spelled_with keys c.args.name)
    more old)
    c.note_again.ensures
