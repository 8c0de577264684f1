use Rattle.report_laws.proofs.NotesOnClocks.{finishes_never_wait, nobody_advances_there, only_makers_are_registered}
use Rattle.report_laws.proofs.clock_notes.clock_notes_are_so.Goals as goal

pub returns : goal.returns
returns c = record { advances = nobody_advances_there; registered = only_makers_are_registered; finishes = finishes_never_wait }
