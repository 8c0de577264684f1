use Rattle.std.proofs.Common.{◌≡◌, ◌<◌, length, arith, get_or, take, subst, sym, ◌∙◌}
use Rattle.std.specs.Prelude.{Contains}
use Rattle.std.proofs.lemmas.List.{take_more, get_or_default}
use Rattle.std.proofs.lemmas.List.Elements.{Contains-get_or}
use Rattle.armus_base.specs.declared.ids.TaskId.{TaskId}
use Rattle.dep_state.specs.calls.Picks.{Ascend}
use Rattle.order_graph.specs.calls.Orders.{successors_of}
use Rattle.order_graph.proofs.Climbing.{row_ascends}
use Rattle.order_graph.proofs.NearestTasks.{ahead_below, tells_each}
use Rattle.order_graph.proofs.distances.nearest.Goals as goal

pub loop-next-preserved : goal.loop-next-preserved
loop-next-preserved c =
    let row = c.deref-next-items.result.now in
    let same : row ≡ successors_of c.args.order.now c.args.t = c.deref-next-items.ensures.value ∙ c.in_ok-successors.ensures ∙ c.row.ensures.row in
    let i = c.loop-next.next-index in
    let none : TaskId = record { 0 = 0 } in
    let next : TaskId = get_or row i none in
    let lt : i < length row = omega arith in
    let here : next ≡ get_or row i next = get_or_default row i none next lt in
    let listed = c.requires.listed next (subst (λ r. Contains {X = TaskId} r next) same (Contains-get_or row i none lt)) in
    let found = tells_each c.args.order.now c.requires.order c.args.goal c.args.far.now c.requires.tells next listed in
    let more = c.nearer-best.ensures c.args.order.now c.args.goal (take i row) c.loop-next.invariant
    (ahead_below row i next (subst Ascend (sym same) (row_ascends c.args.order.now c.requires.order c.args.t c.requires.task)) lt here) (rw c.distance_in-found.ensures found) in
    rw (take_more row i none lt) more
