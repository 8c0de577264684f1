use Rattle.wait_graph.proofs.WaitPlaces.{wait_count}
use Rattle.wait_graph.proofs.graph.WaitGraph.edges.Goals as goal

pub returns : goal.returns
returns c ss d ok is of =
    let of' = rw (← c.self.view_is) at of in
    wait_count ss ok d is _ of' c.edges.result c.edges.ensures
