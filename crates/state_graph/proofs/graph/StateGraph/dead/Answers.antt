use Rattle.state_graph.proofs.StateTasks.{state_dead}
use Rattle.state_graph.proofs.graph.StateGraph.dead.Goals as goal

pub returns : goal.returns
returns c ss d ok is of =
    let of' = rw (← c.self.view_is) at of in
    rw c.from_vec.ensures.items
    (state_dead ss ok d is _ of' c.in_ok-answers.answers c.in_ok-ats.ats.items _ c.in_ok-answers.ensures
    (rw (c.as_slice.ensures.items, c.deref.ensures.value) at c.in_ok-ats.ensures)
    (rw (c.deref-2.ensures.value, c.deref-3.ensures.value) at c.in_ok-dead.ensures))
