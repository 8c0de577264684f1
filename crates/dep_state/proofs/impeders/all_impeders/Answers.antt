use Rattle.std.proofs.Common.{◌≡◌, arith, length}
use Rattle.dep_state.proofs.AddedRows.{rows_none, rows_more}
use Rattle.dep_state.proofs.impeders.all_impeders.Goals as goal

pub loop-k-init : goal.loop-k-init
loop-k-init c = rows_none c.args.list.now c.args.events.now _ c.in_ok-rows.ensures

pub loop-k-preserved : goal.loop-k-preserved
loop-k-preserved c =
    rows_more c.args.list.now c.args.events.now c.loop-k.k c.index-list-k.result _ _ c.loop-k.invariant (omega arith) c.index-list-k.is c.in_ok-add_task.ensures

pub returns : goal.returns
returns c =
    let n : c.loop-k.k ≡ length c.args.list.now = omega arith in
    let inv = c.loop-k.invariant in
    record { sized = inv.sized; each = λ i e lt. rw n at (inv.each i e lt) }
