use Rattle.std.proofs.Common.{◌∙◌, sym, true, false}
use Rattle.explain_check.proofs.Last.{last_more}
use Rattle.explain_check.proofs.notes.last_note.Goals.{then-same_deed, else-same_deed}
use Rattle.explain_check.proofs.notes.last_note.Goals as goal

pub loop-note-preserved : goal.loop-note-preserved
loop-note-preserved c = elim c.if-same_deed.branch [
  | then-same_deed w ↦ last_more c.args.deed c.args.notes.now c.loop-note.note-index _ true c.loop-note.last c.if-same_deed.last c.loop-note-test.true
      c.loop-note.invariant (sym c.same_deed.ensures ∙ w.if-same_deed.true) w.last-is
  | else-same_deed w ↦ last_more c.args.deed c.args.notes.now c.loop-note.note-index _ false c.loop-note.last c.if-same_deed.last c.loop-note-test.true
      c.loop-note.invariant (sym c.same_deed.ensures ∙ w.if-same_deed.false) w.last-is
]
