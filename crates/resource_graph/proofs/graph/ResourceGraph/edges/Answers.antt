use Rattle.resource_graph.proofs.ResourcePlaces.{resource_count}
use Rattle.resource_graph.proofs.graph.ResourceGraph.edges.Goals as goal

pub returns : goal.returns
returns c ss d ok is of =
    let of' = rw (← c.self.view_is) at of in
    resource_count ss ok d is _ of' c.edges.result c.edges.ensures
