use Rattle.std.proofs.Common.{◌-◌, ◌<◌, length, get_or, arith, sym}
use Rattle.std.proofs.lemmas.List.{length-map}
use Rattle.digraph.specs.calls.Graph.{graph_of}
use Rattle.digraph.specs.inside.Search.{row_of}
use Rattle.digraph.proofs.SearchSteps.{row_at, read_at, inside_row}
use Rattle.digraph.proofs.search.ahead.Goals as goal

pub returns-clause-some : goal.returns-clause-some
returns-clause-some c =
    let rows = c.args.rows.now in
    let node = c.args.node in
    let e = row_at rows node c.index-rows-node.result c.requires.node c.index-rows-node.is in
    let some = c.if-unseen-eq0.false in
    let i = rw (← e) at c.index.ensures in
    let fits : get_or c.args.left.now node 0 - 1 < length (row_of (graph_of rows) node) = omega (arith, c.requires.bounded) in
    let in' : node < length (graph_of rows) = rw length-map c.requires.node in
    let at = read_at (row_of (graph_of rows) node) _ c.index.result.now 0 fits i in
    record {
      some_left = omega (arith, some);
      is = sym at;
      inside = rw i (inside_row (graph_of rows) node _ c.index.result.now c.requires.graph in' fits);
      edge = (get_or c.args.left.now node 0 - 1, fits, sym i);
    }
