use Rattle.std.proofs.Common.{arith, get_or, refl}
use Rattle.std.proofs.lemmas.List.{take_all}
use Rattle.armus_base.specs.declared.ids.TaskId.{TaskId}
use Rattle.order_graph.proofs.WaitSets.{set_more}
use Rattle.order_graph.proofs.waits.set_of.Goals as goal

pub loop-k-preserved : goal.loop-k-preserved
loop-k-preserved c =
    let none : TaskId = record { 0 = 0 } in
    let i = c.loop-k.k-index in
    set_more c.args.tasks.now c.args.places.now i (omega (arith, c.loop-k-test.true)) (get_or c.args.tasks.now (get_or c.args.places.now i 0) none) refl c.loop-k.row c.put.new.self
    c.loop-k.invariant c.in_ok-put.ensures.members

pub returns : goal.returns
returns c = rw (take_all c.loop-k.k-index c.args.places.now c.loop-k-test.false) at c.loop-k.invariant
