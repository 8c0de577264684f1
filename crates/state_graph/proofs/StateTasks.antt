-- The tasks that are dead by the state graph.
use Rattle.std.proofs.Common.{◌≡◌, ℕ, ◌<◌, Bool, false, List, length, sym, ap, ◌∙◌, subst, arith, get_or}
use Rattle.std.specs.Prelude.{◌↔◌}
use Rattle.armus_base.specs.Counts.{IsCount}
use Rattle.armus_base.specs.DeadLists.{IsDeadList}
use Rattle.armus_base.specs.Graphs.{StateEdge}
use Rattle.armus_base.specs.calls.Statuses.{IsInOrder}
use Rattle.armus_base.specs.declared.event.Event.{Event}
use Rattle.armus_base.specs.declared.ids.TaskId.{TaskId}
use Rattle.armus_base.specs.declared.status.Status.{Status}
use Rattle.digraph.specs.calls.Graph.{HasEdge, TellsCycles}
use Rattle.dep_state.specs.calls.Deps.{Deps, IsDepsOf}
use Rattle.dep_state.specs.calls.Picks.{IsPick}
use Rattle.dep_state.proofs.TaskPlaces.{count, dead_picked}
use Rattle.state_graph.specs.inside.Growing.{IsAnswersAt}
use Rattle.state_graph.specs.calls.StateEdges.{StateEdges, IsStateGraphOf, IsStatePair}
use Rattle.state_graph.proofs.StatePlaces.{dead_event, edges_count}

module _ (ss : List Status) (ok : IsInOrder ss) (d : Deps) (is : IsDepsOf ss d) where
  sized : length d.tasks ≡ length ss
  sized = count ss ok d is

  pub state_dead :
      (g : StateEdges) → IsStateGraphOf d g → (answers ats : List Bool) (dead : List TaskId) → TellsCycles g.edges answers →
      IsAnswersAt answers g.awaits (length g.awaits) ats → IsPick g.tasks ats dead → IsDeadList ss dead
  state_dead g of answers ats dead tells at picks =
      let pairs : (i j : ℕ) → HasEdge g.edges i j ↔ IsStatePair d (length ss) i j = rw (← sized) of.edges in
      let picks' : IsPick d.tasks ats dead = subst (λ ts. IsPick ts ats dead) of.tasks picks in
      dead_picked ss ok d is ats dead (λ k s lt e.
      let n : length g.awaits ≡ length ss = ap length of.awaits ∙ is.formed.awaits_sized ∙ sized in
      let inside : get_or d.awaits k 0 < length g.edges = omega (arith, of.nodes, is.formed.events_inside k 0 (omega (arith, is.formed.awaits_sized, sized))) in
      let same : get_or ats k false ≡ get_or answers (get_or d.awaits k 0) false =
      at.each k (omega (arith, n)) ∙ ap (λ ws. get_or answers (get_or ws k 0) false) of.awaits in
      let closed = tells.sets (get_or d.awaits k 0) inside in
      let event = dead_event ss ok d is g.edges pairs k s lt e in (
        λ on. event.0 (closed.0 (sym same ∙ on)),
        λ h. same ∙ closed.1 (event.1 h),
      )) picks'

  pub state_count_of :
      (g : StateEdges) → IsStateGraphOf d g → (n : ℕ) → IsCount (λ (p : ℕ × ℕ). HasEdge g.edges p.0 p.1) n → IsCount (λ (r : Event × Event). StateEdge ss r.0 r.1) n
  state_count_of g of n c =
      let pairs : (i j : ℕ) → HasEdge g.edges i j ↔ IsStatePair d (length ss) i j = rw (← sized) of.edges in
      edges_count ss ok d is g.edges pairs n c
