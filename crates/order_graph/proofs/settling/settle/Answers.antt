use Rattle.std.proofs.Common.{◌≡◌, ◌<◌, arith, length, take}
use Rattle.std.proofs.lemmas.List.{take_more, length-take-le}
use Rattle.armus_base.specs.declared.ids.TaskId.{TaskId}
use Rattle.order_graph.proofs.MendedLists.{not_ahead, settle_more}
use Rattle.order_graph.proofs.settling.settle.Goals as goal

pub loop-k-preserved : goal.loop-k-preserved
loop-k-preserved c =
    let ts = c.args.ts.now in
    let k = c.loop-k.k in
    let none : TaskId = record { 0 = 0 } in
    let lt : k < length ts = omega arith in
    let n : length (take k ts) ≡ k = length-take-le k ts (omega arith) in
    rw (take_more ts k none lt)
    (rw n at (settle_more c.args.low (take k ts) _ c.args.positions.now c.loop-k.positions c.args.at.now c.loop-k.at c.loop-k.invariant
    (not_ahead ts k none c.requires.two lt) (c.requires.tasks k none lt) (omega (arith, c.requires.inside))))
