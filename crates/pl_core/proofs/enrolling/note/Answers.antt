use Rattle.std.proofs.Common.{◌≡◌, ◌<◌, Some, arith, length, refl}
use Rattle.std.specs.Prelude.{slice_get}
use Rattle.std.proofs.lemmas.Option.{slice_get_read}
use Rattle.pl_core.proofs.Noted.{notes_one}
use Rattle.pl_core.proofs.enrolling.note.Goals as goal

pub returns-in_ok-push : goal.returns-in_ok-push
returns-in_ok-push c =
    let rows = c.args.rows.now.items in
    let within : c.args.c < length rows = omega arith in
    let read : slice_get rows c.args.c ≡ Some c.index_mut.result.now =
    slice_get_read rows (length rows) c.args.c c.index_mut.result.now refl within c.index_mut.ensures.value in
    notes_one rows c.args.c c.args.p c.index_mut.result.now c.push.new.self read c.in_ok-push.ensures.items
