use Rattle.state_graph.proofs.StateTasks.{state_count_of}
use Rattle.state_graph.proofs.graph.StateGraph.edges.Goals as goal

pub returns : goal.returns
returns c ss d ok is of =
    let of' = rw (← c.self.view_is) at of in
    state_count_of ss ok d is _ of' c.edges.result c.edges.ensures
