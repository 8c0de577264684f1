use Rattle.std.proofs.Common.{take}
use Rattle.board_runs.specs.calls.Endings.{NotesPlaces}
use Rattle.board_runs.proofs.endings.note_places.Given as goal

abbrev pub invariant-loop-task : goal.invariant-loop-task
invariant-loop-task l = NotesPlaces (take l.task-index l.tasks) l.initial.places.items l.places.items
