use Rattle.std.proofs.Common.{◌+◌, ◌∙◌, arith, get_or, take}
use Rattle.std.specs.Prelude.{Contains, ◌↔◌}
use Rattle.armus_base.specs.declared.ids.TaskId.{TaskId}
use Rattle.order_graph.specs.calls.Waits.{Awaits}
use Rattle.order_graph.specs.inside.Steps.{PairsFrom, ToWanted}
use Rattle.order_graph.proofs.PairEdges.{adds_both, adds_stop, own_pairs, pairs_more, pairs_so_far}
use Rattle.order_graph.proofs.following.add_missing.Goals as goal
use Rattle.order_graph.proofs.following.add_missing.Goals.{After-own_set}

abbrev none : TaskId
none = record { 0 = 0 }

-- the set that is looked up is that of the next task that is behind
own : (c : After-own_set) (b : TaskId) → Contains c.own_set.result.now b ↔ Awaits c.args.waits.now (get_or c.args.behind.now c.loop-t.t-index none) b
own c =
    own_pairs c.args.waits.now (get_or c.args.behind.now c.loop-t.t-index none)
    (omega (arith, c.requires.tasks c.loop-t.t-index none (omega arith), c.requires.among.sized)) c.own_set.result.now c.own_set.ensures

pub returns-in-Dead-clause-pairs : goal.returns-in-Dead-clause-pairs
returns-in-Dead-clause-pairs c =
    let at = (goal.at.returns-in-Dead-clause-pairs c).After-own_set in
    let w = c.args.waits.now in
    let set = c.own_set.result.now in
    let ts = c.args.behind.now in
    let i = c.loop-t.t-index in
    adds_stop (PairsFrom (Awaits w) (take i ts)) (ToWanted (get_or ts i none) set) (PairsFrom (Awaits w) ts) c.args.order.now c.loop-t.order c.add_row.new.order
    c.loop-t.invariant.adds (rw c.in-Dead.is at c.in_ok-add_row.ensures.row) (pairs_so_far (Awaits w) set ts i none (omega arith) (own at))

pub loop-t-preserved : goal.loop-t-preserved
loop-t-preserved c =
    let at = (goal.at.loop-t-preserved c).After-own_set in
    let w = c.args.waits.now in
    let set = c.own_set.result.now in
    let ts = c.args.behind.now in
    let i = c.loop-t.t-index in
    record {
      order = c.in_ok-add_row.ensures.order;
      tasks = c.in_ok-add_row.ensures.tasks ∙ c.loop-t.invariant.tasks;
      adds = adds_both (PairsFrom (Awaits w) (take i ts)) (ToWanted (get_or ts i none) set) (PairsFrom (Awaits w) (take (i + 1) ts)) c.args.order.now
          c.loop-t.order c.add_row.new.order c.loop-t.invariant.adds (rw c.in_default.is at c.in_ok-add_row.ensures.row)
          (pairs_more (Awaits w) set ts i none (omega arith) (own at));
    }
