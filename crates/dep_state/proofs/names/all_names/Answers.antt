use Rattle.std.proofs.Common.{◌≡◌, ◌<◌, [], length, arith, get_or, ◌∙◌, sym, ap}
use Rattle.std.proofs.lemmas.List.{length-map}
use Rattle.dep_state.specs.inside.Names.{named}
use Rattle.dep_state.specs.calls.Deps.{rows_of}
use Rattle.dep_state.proofs.NamedTasks.{rows_more}
use Rattle.dep_state.proofs.TaskPlaces.{row_at}
use Rattle.dep_state.proofs.names.all_names.Goals as goal

pub names-requires : goal.names-requires
names-requires c =
    let lt : c.loop-row.row-index < length c.args.rows.now = omega arith in
    let row = row_at c.args.rows.now c.loop-row.row-index c.row-item.result lt c.row-item.is in
    let all = c.requires c.loop-row.row-index [] (rw length-map lt) in
    rw c.deref.ensures.value (rw row at all)

pub loop-row-preserved : goal.loop-row-preserved
loop-row-preserved c =
    let lt : c.loop-row.row-index < length c.args.rows.now = omega arith in
    let row = row_at c.args.rows.now c.loop-row.row-index c.row-item.result lt c.row-item.is in
    let lt' : c.loop-row.row-index < length (rows_of c.args.rows.now) = rw length-map lt in
    let made : c.in_ok-named.named.items ≡ named c.args.tasks.now (get_or (rows_of c.args.rows.now) c.loop-row.row-index []) =
    c.in_ok-named.ensures ∙ ap (named c.args.tasks.now) (c.deref.ensures.value ∙ sym row) in
    rw c.in_ok-push.ensures.items (rows_more c.args.tasks.now (rows_of c.args.rows.now) c.loop-row.row-index c.loop-row.all.items c.in_ok-named.named c.loop-row.invariant lt' made)
