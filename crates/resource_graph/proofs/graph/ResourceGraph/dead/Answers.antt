use Rattle.resource_graph.proofs.ResourcePlaces.{resource_dead}
use Rattle.resource_graph.proofs.graph.ResourceGraph.dead.Goals as goal

pub returns : goal.returns
returns c ss d ok is of =
    let of' = rw (← c.self.view_is) at of in
    rw c.from_vec.ensures.items
    (resource_dead ss ok d is _ of' _ _ c.in_ok-answers.ensures (rw (c.deref.ensures.value, c.as_slice.ensures.items) at c.in_ok-dead.ensures))
