use Rattle.std.proofs.Common.{subst}
use Rattle.std.proofs.lemmas.List.{take_all}
use Rattle.explain_facts.specs.inside.Spelled.{NotesNames, spellings}
use Rattle.explain_facts.proofs.NamesSeen.{notes_more, notes_none}
use Rattle.explain_facts.proofs.names.note_all.Goals as goal

pub loop-name-init : goal.loop-name-init
loop-name-init c = notes_none (spellings c.args.seen.now.keys) (spellings c.args.again.now.keys)

pub loop-name-preserved : goal.loop-name-preserved
loop-name-preserved c =
    notes_more c.args.names.now c.loop-name.name-index _ (spellings c.args.seen.now.keys) (spellings c.args.again.now.keys) (spellings c.loop-name.seen.keys)
    (spellings c.loop-name.again.keys) (spellings c.note.new.seen.keys) (spellings c.note.new.again.keys) c.loop-name-test.true c.loop-name.invariant
    c.in_ok-note.ensures

pub returns : goal.returns
returns c =
    subst (λ names. NotesNames (spellings names) (spellings c.args.seen.now.keys) (spellings c.args.again.now.keys) (spellings c.loop-name.seen.keys) (spellings c.loop-name.again.keys))
    (take_all c.loop-name.name-index c.args.names.now c.loop-name-test.false) c.loop-name.invariant
