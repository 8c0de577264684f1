use Rattle.std.proofs.Common.{subst, []}
use Rattle.explain_facts.specs.inside.Spelled.{NotesNames, spellings}
use Rattle.explain_facts.proofs.NamesSeen.{shared_are}
use Rattle.explain_facts.proofs.names.shared_names.Goals as goal

pub returns : goal.returns
returns c =
    let a = spellings c.args.tasks.now in
    let seen = spellings c.note_all.new.seen.keys in
    let again = spellings c.note_all.new.again.keys in
    shared_are a (spellings c.args.phasers.now) seen again (spellings c.note_all-2.new.seen.keys) (spellings c.note_all-2.new.again.keys)
    (subst (λ keys. NotesNames a (spellings keys) [] seen again) c.new-seen.ensures.empty
    (subst (λ keys. NotesNames a (spellings c.new-seen.result.keys) (spellings keys) seen again) c.new-again.ensures.empty c.in_ok-note_all.ensures))
    c.in_ok-note_all-2.ensures
