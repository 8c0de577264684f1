use Rattle.wait_graph.proofs.WaitPlaces.{dead_list}
use Rattle.wait_graph.proofs.graph.WaitGraph.dead.Goals as goal

pub returns : goal.returns
returns c ss d ok is of =
    let of' = rw (← c.self.view_is) at of in
    rw c.from_vec.ensures.items
    (dead_list ss ok d is _ of' _ _ c.self.invariant c.in_ok-answers.ensures (rw (c.deref.ensures.value, c.as_slice.ensures.items) at c.in_ok-dead.ensures))
