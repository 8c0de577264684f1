use Rattle.std.proofs.Common.{◌≡◌, ◌+◌, length, set, cond}
use Rattle.std.proofs.lemmas.Result.{IfOk-weaker, on_ok_weaker, on_err_weaker}
use Rattle.std.proofs.lemmas.List.{length-map}
use Rattle.digraph.specs.calls.Graph.{graph_of}
use Rattle.digraph.specs.inside.Rows.{edge_count}
use Rattle.digraph.proofs.RowLemmas.{old_row, old_is_row, graph_kept, graph_adds, graph_same, graph_count}
use Rattle.digraph.proofs.rows.add_edge.Goals as goal

pub put-requires : goal.put-requires
put-requires c = (old_is_row _ _ _ c.index_mut.result.now c.requires.from c.index_mut.ensures.value c.requires.graph).0

pub returns-clause-graph : goal.returns-clause-graph
returns-clause-graph c =
    let old = old_is_row _ _ _ c.index_mut.result.now c.requires.from c.index_mut.ensures.value c.requires.graph in
    graph_kept _ _ _ c.put.new.row c.requires.from c.index_mut.ensures.value c.requires.graph c.put.ensures.ascends
    (c.put.ensures.within (length (graph_of c.args.rows.now.items)) (rw length-map c.requires.to) old.1)

pub returns-clause-edges : goal.returns-clause-edges
returns-clause-edges c = on_ok_weaker c.put.result (graph_adds _ _ _ c.put.new.row c.requires.from c.index_mut.ensures.value c.args.b) c.put.ensures.members

pub returns-clause-fresh : goal.returns-clause-fresh
returns-clause-fresh c =
    rw (old_row _ _ _ c.put.new.row c.requires.from c.index_mut.ensures.value) c.put.ensures.fresh

pub returns-clause-count : goal.returns-clause-count
returns-clause-count c =
    IfOk-weaker c.put.result (λ f. length c.put.new.row.items ≡ length c.index_mut.result.now.items + cond f 1 0)
    (λ f. edge_count (graph_of (set c.args.rows.now.items c.args.a c.put.new.row)) ≡ edge_count (graph_of c.args.rows.now.items) + cond f 1 0)
    (λ f. graph_count _ _ _ c.put.new.row c.requires.from c.index_mut.ensures.value (cond f 1 0)) c.put.ensures.len

pub returns-clause-err : goal.returns-clause-err
returns-clause-err c = on_err_weaker c.put.result (graph_same _ _ _ c.put.new.row c.requires.from c.index_mut.ensures.value) c.put.ensures.err
