-- The note on what is wrong at a check fault.
use Rattle.std.specs.Prelude.{ℕ, List, [], ◌++◌, codes}
use Rattle.pl_syntax.specs.Printed.{line}
use Rattle.source_map.specs.PlaceWords.{place_words}
use Rattle.source_map.specs.declared.place.TextPlace.{TextPlace}
use Rattle.explain_check.specs.declared.scene.Matter.{Matter}
use Rattle.explain_check.specs.declared.scene.Matter.TheVariants as m
use Rattle.explain_check.specs.NameWords.{phaser_words, task_words}
use Rattle.explain_check.specs.StatementPlaces.{place_of_statement}

-- a line of some words and a place of the text
abbrev pub note_line : List ℕ → List ℕ → TextPlace → List ℕ
note_line text words place = line (codes "  " ++ words ++ place_words text place)

-- the note, by the offsets of all statements and the end of the text, where this statement forked the current task
abbrev pub matter_note : List ℕ → List ℕ → ℕ → ℕ → Matter → List ℕ
matter_note text offsets end forked_by (m.TaskWanted name verb phaser made) =
    note_line text (phaser_words phaser ++ codes " made at ") (place_of_statement text offsets end made)
matter_note text offsets end forked_by (m.PhaserWanted name verb task drawn) =
    note_line text (task_words task ++ codes " drawn at ") (place_of_statement text offsets end drawn)
matter_note text offsets end forked_by (m.HasLeft phaser left) = note_line text (codes "it left at ") (place_of_statement text offsets end left)
matter_note text offsets end forked_by (m.NeverMember phaser) =
    note_line text (codes "it was not registered before its fork at ") (place_of_statement text offsets end forked_by)
matter_note text offsets end forked_by (m.AlreadyMember task phaser registered) =
    note_line text (codes "it was registered at ") (place_of_statement text offsets end registered)
matter_note text offsets end forked_by (m.NotDrawnHere task by drawn) =
    note_line text (task_words by ++ codes " drew it at ") (place_of_statement text offsets end drawn)
matter_note text offsets end forked_by (m.AlreadyForked task forked) = note_line text (codes "it was forked at ") (place_of_statement text offsets end forked)
matter_note text offsets end forked_by matter = []
