use Rattle.std.proofs.Common.{take}
use Rattle.explain_facts.specs.inside.Spelled.{NotesNames, spellings}
use Rattle.explain_facts.proofs.names.note_all.Given as goal

abbrev pub invariant-loop-name : goal.invariant-loop-name
invariant-loop-name l =
    NotesNames (spellings (take l.name-index l.names)) (spellings l.initial.seen.keys) (spellings l.initial.again.keys) (spellings l.seen.keys) (spellings l.again.keys)
