use Rattle.std.proofs.Common.{◌+◌, ◌∙◌, arith, get_or, take}
use Rattle.armus_base.specs.declared.ids.TaskId.{TaskId}
use Rattle.order_graph.specs.inside.Steps.{ToWanted}
use Rattle.order_graph.proofs.PairEdges.{IsOne, adds_both, adds_one, adds_stop, stops_one, wanted_more, wanted_so_far}
use Rattle.order_graph.proofs.following.add_edges.Goals as goal

pub returns-in-Cycle-clause-row : goal.returns-in-Cycle-clause-row
returns-in-Cycle-clause-row c =
    let i = c.loop-b.b-index in
    let none : TaskId = record { 0 = 0 } in
    let b : TaskId = get_or c.args.wanted.now i none in
    let added = rw c.in-Cycle.is at c.in_ok-add.ensures.added in
    adds_stop (ToWanted c.args.t (take i c.args.wanted.now)) (IsOne c.args.t b) (ToWanted c.args.t c.args.wanted.now) c.args.order.now c.loop-b.order c.add.new.self
    c.loop-b.invariant.adds (rw added.0 (stops_one c.args.t b c.loop-b.order c.in-Cycle.field-0 added.1))
    (wanted_so_far c.args.t c.args.wanted.now i none (omega arith))

pub loop-b-preserved : goal.loop-b-preserved
loop-b-preserved c =
    let inv = c.loop-b.invariant in
    let i = c.loop-b.b-index in
    let none : TaskId = record { 0 = 0 } in
    let b : TaskId = get_or c.args.wanted.now i none in
    let added = rw c.in-Kept.is at c.in_ok-add.ensures.added in
    record {
      order = c.in_ok-add.ensures.order;
      tasks = added.tasks ∙ inv.tasks;
      adds = adds_both (ToWanted c.args.t (take i c.args.wanted.now)) (IsOne c.args.t b) (ToWanted c.args.t (take (i + 1) c.args.wanted.now)) c.args.order.now
          c.loop-b.order c.add.new.self inv.adds
          (adds_one c.args.t b c.loop-b.order c.add.new.self added) (wanted_more c.args.t c.args.wanted.now i none (omega arith));
    }
