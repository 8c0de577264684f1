use Rattle.std.proofs.lemmas.List.{take_all}
use Rattle.order_graph.proofs.MendedLists.{mended_list}
use Rattle.order_graph.proofs.mending.mended.Goals as goal

pub returns : goal.returns
returns c b to is tells never =
    let whole = take_all c.loop-t.t-index c.args.stretch.now c.loop-t-test.false in
    let front = rw whole at c.loop-t.invariant.front in
    let back = rw whole at c.loop-t.invariant.back in
    let list = mended_list c.args.order.now c.requires.order c.args.goal b to c.args.far.now tells c.args.stretch.now is c.requires.listed never in
    rw (c.in_ok-extend_from_slice.ensures.items, c.deref.ensures.value, front, back) list
