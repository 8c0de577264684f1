use Rattle.std.proofs.Common.{◌≡◌}
use Rattle.std.specs.Prelude.{take}
use Rattle.explain_check.specs.inside.Noted.{last_noted}
use Rattle.explain_check.proofs.notes.last_note.Given as goal

abbrev pub invariant-loop-note : goal.invariant-loop-note
invariant-loop-note l = l.last ≡ last_noted l.deed (take l.note-index l.notes)
