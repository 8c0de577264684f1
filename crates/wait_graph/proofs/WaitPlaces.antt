-- The wait-for graph by places is that of the statuses.
use Rattle.std.proofs.Common.{◌≡◌, ℕ, ◌<◌, Bool, List, length, refl, sym, ap, ◌∙◌, subst, arith, get_or}
use Rattle.std.specs.Prelude.{Contains, ◌↔◌}
use Rattle.armus_base.specs.Counts.{IsCount}
use Rattle.armus_base.specs.DeadLists.{IsDeadList}
use Rattle.armus_base.specs.Graphs.{WaitsFor}
use Rattle.armus_base.specs.calls.Relations.{IsInClosedSet}
use Rattle.armus_base.specs.Statuses.{Impedes}
use Rattle.armus_base.specs.calls.Statuses.{IsInOrder}
use Rattle.armus_base.specs.declared.ids.TaskId.{TaskId}
use Rattle.armus_base.specs.declared.status.Status.{Status}
use Rattle.armus_base.proofs.Counts.{count_along}
use Rattle.digraph.specs.calls.Graph.{HasEdge, TellsCycles}
use Rattle.dep_state.specs.calls.Deps.{Deps, IsDepsOf, impeders_of}
use Rattle.dep_state.specs.calls.Picks.{IsPick}
use Rattle.dep_state.proofs.DeadSets.{IsDead, one_status, dead_to_waits, waits_to_dead}
use Rattle.dep_state.proofs.TaskPlaces.{element, impeder_inside, StandsAt, one_task, one_place, count, dead_picked}
use Rattle.dep_state.proofs.Transfer.{transfer}
use Rattle.wait_graph.specs.calls.WaitEdges.{WaitEdges, IsWaitGraphOf}

module _ (ss : List Status) (ok : IsInOrder ss) (d : Deps) (is : IsDepsOf ss d) (g : WaitEdges) (of : IsWaitGraphOf d g) where
  sized : length d.tasks ≡ length ss
  sized = count ss ok d is

  -- what the relations say at two places
  at_places :
      (j k : ℕ) (s v : Status) → j < length ss → get_or ss j s ≡ s → k < length ss → get_or ss k v ≡ v →
      Contains (impeders_of d (get_or d.awaits j 0)) k ↔ Impedes v s.event
  at_places j k s v lt e lt' e' =
      let inside = is.formed.events_inside j 0 (omega (arith, is.formed.awaits_sized, sized)) in
      let both = is.impeders (get_or d.awaits j 0) k s.event v inside lt' in
      let event = is.awaits j s s.event lt ∙ ap (λ x. x.event) e in
      rw (event, e') at both

  -- an edge of the graph is a wait of the statuses at its places
  pub edge_waits : (j k : ℕ) (t u : TaskId) → HasEdge g.edges j k → StandsAt ss j t → StandsAt ss k u → WaitsFor ss t u
  edge_waits j k t u edge (s, lt, e, f) (v, lt', e', f') =
      let (in', c) = (of.edges j k).0 edge in
      (s, (j, lt, e), f, (v, (k, lt', e'), f', (at_places j k s v lt e lt' e').0 c))

  pub wait_edges : (t u : TaskId) (j k : ℕ) → WaitsFor ss t u → StandsAt ss j t → StandsAt ss k u → HasEdge g.edges j k
  wait_edges t u j k (s', i', st, (u', l', ut, imp)) (s, lt, e, f) (v, lt', e', f') =
      let same = one_status ss ok s' s i' (j, lt, e) (st ∙ sym f) in
      let same' = one_status ss ok u' v l' (k, lt', e') (ut ∙ sym f') in
      let p : Impedes v s.event = subst (λ x. Impedes v x.event) same (subst (λ x. Impedes x s'.event) same' imp) in
      (of.edges j k).1 (omega (arith, sized), (at_places j k s v lt e lt' e').1 p)

  from_place : (j k : ℕ) → HasEdge g.edges j k → (t : TaskId) × StandsAt ss j t
  from_place j k edge =
      let (in', c) = (of.edges j k).0 edge in
      let lt : j < length ss = omega (arith, sized) in
      let (s, e) = element ss j lt in
      (s.t, (s, lt, e, refl))

  to_place : (t u : TaskId) → WaitsFor ss t u → (j : ℕ) × StandsAt ss j t
  to_place t u (s, (j, lt, e), f, rest) = (j, (s, lt, e, f))

  pub dead_place : (k : ℕ) (t : TaskId) → StandsAt ss k t → IsInClosedSet (HasEdge g.edges) k ↔ IsDead ss t
  dead_place k t at = (
    λ c. waits_to_dead ss t (transfer (HasEdge g.edges) (WaitsFor ss) (StandsAt ss) (one_task ss ok) from_place edge_waits k t at c),
    λ c. transfer (WaitsFor ss) (HasEdge g.edges) (λ u j. StandsAt ss j u) (one_place ss ok) to_place wait_edges t k at (dead_to_waits ss t c),
  )

  -- the picked tasks are the dead ones
  pub dead_list : (answers : List Bool) (dead : List TaskId) → length g.edges ≡ length g.tasks → TellsCycles g.edges answers → IsPick g.tasks answers dead → IsDeadList ss dead
  dead_list answers dead nodes tells picks =
      let picks' : IsPick d.tasks answers dead = subst (λ ts. IsPick ts answers dead) of.tasks picks in
      dead_picked ss ok d is answers dead (λ k s lt e.
      let closed = tells.sets k (omega (arith, nodes, ap length of.tasks, sized)) in
      let place = dead_place k s.t (s, lt, e, refl) in
      (λ on. place.0 (closed.0 on), λ h. closed.1 (place.1 h))) picks'

  PairsAt : (ℕ × ℕ) → (TaskId × TaskId) → Type 0
  PairsAt p q = StandsAt ss p.0 q.0 × StandsAt ss p.1 q.1

  edge_tasks : (j k : ℕ) → HasEdge g.edges j k → ((t : TaskId) × StandsAt ss j t) × ((u : TaskId) × StandsAt ss k u)
  edge_tasks j k edge =
      let (in', c) = (of.edges j k).0 edge in
      let lt : k < length ss = omega (arith, impeder_inside d is.formed (get_or d.awaits j 0) k c, sized) in
      let (v, e) = element ss k lt in
      (from_place j k edge, (v.t, (v, lt, e, refl)))

  pub wait_places : (t u : TaskId) → WaitsFor ss t u → ((j : ℕ) × StandsAt ss j t) × ((k : ℕ) × StandsAt ss k u)
  wait_places t u (s, (j, lt, e), f, (v, (k, lt', e'), f', p)) = ((j, (s, lt, e, f)), (k, (v, lt', e', f')))

  -- as many edges as pairs of the statuses
  pub wait_count : (n : ℕ) → IsCount (λ (p : ℕ × ℕ). HasEdge g.edges p.0 p.1) n → IsCount (λ (q : TaskId × TaskId). WaitsFor ss q.0 q.1) n
  unfolding PairsAt
  wait_count n c =
      count_along (λ (p : ℕ × ℕ). HasEdge g.edges p.0 p.1) (λ (q : TaskId × TaskId). WaitsFor ss q.0 q.1) PairsAt n c
      (λ p o q a b i. (one_place ss ok q.0 p.0 o.0 a.0 b.0 i, one_place ss ok q.1 p.1 o.1 a.1 b.1 i))
      (λ p q r a b i. (one_task ss ok p.0 q.0 r.0 a.0 b.0 i, one_task ss ok p.1 q.1 r.1 a.1 b.1 i))
      (λ p h. let ((t, tj), (u, uk)) = edge_tasks p.0 p.1 h in ((t, u), (tj, uk), edge_waits p.0 p.1 t u h tj uk))
      (λ q h. let ((j, tj), (k, uk)) = wait_places q.0 q.1 h in ((j, k), (tj, uk), wait_edges q.0 q.1 j k h tj uk))
