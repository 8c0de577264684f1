use Rattle.std.proofs.Common.{◌<◌, [], length}
use Rattle.std.proofs.lemmas.List.{length-map}
use Rattle.digraph.specs.calls.Cycle.{IsLeastMarked}
use Rattle.digraph.specs.calls.Graph.{graph_of}
use Rattle.digraph.specs.inside.Search.{row_of}
use Rattle.digraph.proofs.SearchSteps.{row_at}
use Rattle.digraph.proofs.LeastSuccessors.{row_answers, some_answer, step_from_least}
use Rattle.digraph.proofs.cycle.successor.Goals as goal

pub least_marked-requires-clause-inside : goal.least_marked-requires-clause-inside
least_marked-requires-clause-inside c =
    let row = row_at c.args.rows.now c.args.node c.index-rows-node.result c.requires.node c.index-rows-node.is in
    let lt : c.args.node < length (graph_of c.args.rows.now) = rw length-map c.requires.node in
    rw c.deref.ensures.value (rw row at (row_answers _ _ c.requires.graph c.requires.tells c.args.node lt))

pub least_marked-requires-clause-ascends : goal.least_marked-requires-clause-ascends
least_marked-requires-clause-ascends c =
    let row = row_at c.args.rows.now c.args.node c.index-rows-node.result c.requires.node c.index-rows-node.is in
    let lt : c.args.node < length (graph_of c.args.rows.now) = rw length-map c.requires.node in
    rw c.deref.ensures.value (rw row at (c.requires.graph c.args.node [] lt).0)

pub returns-in-None-clause-step : goal.returns-in-None-clause-step
returns-in-None-clause-step c reaches =
    let row = row_at c.args.rows.now c.args.node c.index-rows-node.result c.requires.node c.index-rows-node.is in
    let lt : c.args.node < length (graph_of c.args.rows.now) = rw length-map c.requires.node in
    absurd (some_answer _ _ c.requires.graph c.requires.tells c.args.node lt reaches (rw row (rw c.deref.ensures.value at c.in-None.ensures.none)))

pub returns-in-Some-clause-step : goal.returns-in-Some-clause-step
returns-in-Some-clause-step c reaches =
    let row = row_at c.args.rows.now c.args.node c.index-rows-node.result c.requires.node c.index-rows-node.is in
    let lt : c.args.node < length (graph_of c.args.rows.now) = rw length-map c.requires.node in
    let least : IsLeastMarked (row_of (graph_of c.args.rows.now) c.args.node) c.args.answers.now c.in-Some.next = rw row (rw c.deref.ensures.value at c.in-Some.ensures.some) in
    (step_from_least _ _ c.requires.graph c.requires.tells c.args.node lt c.in-Some.next least, least.marked)
