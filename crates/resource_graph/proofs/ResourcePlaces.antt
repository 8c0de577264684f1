-- The general resource graph by places is that of the statuses.
use Rattle.std.proofs.Common.{◌≡◌, ℕ, ◌+◌, ◌<◌, Bool, List, length, refl, sym, ap, ◌∙◌, subst, inl, inr, arith, get_or}
use Rattle.std.specs.Prelude.{Contains, ◌↔◌}
use Rattle.armus_base.specs.Counts.{IsCount}
use Rattle.armus_base.specs.calls.Relations.{IsInClosedSet}
use Rattle.digraph.specs.calls.Graph.{HasEdge, TellsCycles}
use Rattle.armus_base.proofs.Counts.{count_along}
use Rattle.armus_base.specs.declared.ids.TaskId.{TaskId}
use Rattle.armus_base.specs.declared.event.Event.{Event}
use Rattle.armus_base.specs.declared.status.Status.{Status}
use Rattle.armus_base.specs.Statuses.{Impedes, IsAwaited}
use Rattle.armus_base.specs.calls.Statuses.{IsInOrder}
use Rattle.dep_state.proofs.DeadSets.{IsDead}
use Rattle.armus_base.specs.Graphs.{Resource, task, event, ResourceEdge}
use Rattle.dep_state.proofs.DeadSets.{one_status, dead_to_resource, resource_to_dead}
use Rattle.dep_state.proofs.Transfer.{transfer}
use Rattle.dep_state.specs.calls.Deps.{Deps, IsDepsOf, impeders_of}
use Rattle.resource_graph.specs.calls.ResourceEdges.{ResourceEdges, IsResourceGraphOf}
use Rattle.dep_state.specs.calls.Picks.{IsPick}
use Rattle.armus_base.specs.DeadLists.{IsDeadList}
use Rattle.dep_state.proofs.TaskPlaces.{element, StandsAt, impeder_inside, one_task, one_place}
use Rattle.dep_state.proofs.EventPlaces.{EventAt, one_event, one_event_place, awaited_at, impeded_at}
use Rattle.dep_state.proofs.TaskPlaces.{count, dead_picked}

-- a resource stands at a node
abbrev pub ResourceAt : List Status → Deps → ℕ → Resource → Type 0
ResourceAt ss d n (task t) = StandsAt ss n t
ResourceAt ss d n (event e) = (i : ℕ) × (n ≡ length d.tasks + i) × EventAt d i e

module _ (ss : List Status) (ok : IsInOrder ss) (d : Deps) (is : IsDepsOf ss d) where
  one_resource : (n : ℕ) (r q : Resource) → ResourceAt ss d n r → ResourceAt ss d n q → r ≡ q
  one_resource n (task t) (task u) a b = ap task (one_task ss ok n t u a b)
  one_resource n (task t) (event e) (s, lt, f, g) (i, at, h) = absurd (omega (arith, count ss ok d is))
  one_resource n (event e) (task t) (i, at, h) (s, lt, f, g) = absurd (omega (arith, count ss ok d is))
  one_resource n (event e) (event f) (i, at, h) (j, at', h') =
      let same : i ≡ j = omega arith in
      ap event (one_event d j e f (subst (λ o. EventAt d o e) same h) h')

  one_node : (r : Resource) (m n : ℕ) → ResourceAt ss d m r → ResourceAt ss d n r → m ≡ n
  one_node (task t) m n a b = one_place ss ok t m n a b
  one_node (event e) m n (i, at, h) (j, at', h') =
      let same = one_event_place ss ok d is e i j h h' in
      omega (arith, same)

  stands : (k : ℕ) → k < length ss → (t : TaskId) × StandsAt ss k t
  stands k lt = let (s, e) = element ss k lt in (s.t, (s, lt, e, refl))

  module _ (g : ResourceEdges) (of : IsResourceGraphOf d g) where
    edge_resource : (x y : ℕ) (r q : Resource) → HasEdge g.edges x y → ResourceAt ss d x r → ResourceAt ss d y q → ResourceEdge ss r q
    edge_resource x y (task t) (task u) h (s, lt, e, f) (v, lt', e', f') =
        elim ((of.edges x y).0 h) [
          | inl a ↦ omega (arith, a.1, count ss ok d is)
          | inr b ↦ let (i, in', at, c) = b in omega (arith, count ss ok d is)
        ]
    edge_resource x y (task t) (event o) h (s, lt, e, f) (j, at', h') =
        elim ((of.edges x y).0 h) [
          | inl a ↦
              let same : get_or d.awaits x 0 ≡ j = omega (arith, a.1, at') in
              let ev : s.event ≡ o = one_event d j s.event o (subst (λ w. EventAt d w s.event) same (awaited_at ss ok d is x s lt e)) h' in
              (s, (x, lt, e), f, ev)
          | inr b ↦ let (i, in', at, c) = b in absurd (omega (arith, count ss ok d is))
        ]
    edge_resource x y (event o) (task u) h (j, at', h') (v, lt', e', f') =
        elim ((of.edges x y).0 h) [
          | inl a ↦ absurd (omega (arith, a.0, at'))
          | inr b ↦
              let (i, in', at, c) = b in
              let same : i ≡ j = omega arith in
              let c' : Contains (impeders_of d j) y = subst (λ w. Contains (impeders_of d w) y) same c in
              ((is.awaited o).0 (j, h'.0, h'.1), (v, (y, lt', e'), f', (impeded_at ss ok d is j y o v h' lt' e').0 c'))
        ]
    edge_resource x y (event o) (event q) h (j, at', h') (k, at'', h'') =
        elim ((of.edges x y).0 h) [
          | inl a ↦ omega (arith, a.0, at')
          | inr b ↦ let (i, in', at, c) = b in omega (arith, impeder_inside d is.formed i y c)
        ]

    resource_edge : (r q : Resource) (x y : ℕ) → ResourceEdge ss r q → ResourceAt ss d x r → ResourceAt ss d y q → HasEdge g.edges x y
    resource_edge (task t) (task u) x y h a b = absurd h
    resource_edge (task t) (event o) x y (s', i', st, se) (s, lt, e, f) (j, at', h') =
        let same = one_status ss ok s' s i' (x, lt, e) (st ∙ sym f) in
        let ev : s.event ≡ o = ap (λ z. z.event) (sym same) ∙ se in
        let at = one_event_place ss ok d is o (get_or d.awaits x 0) j (subst (λ w. EventAt d (get_or d.awaits x 0) w) ev (awaited_at ss ok d is x s lt e)) h' in
        (of.edges x y).1 (inl (omega (arith, count ss ok d is), omega (arith, at, at')))
    resource_edge (event o) (task u) x y (aw, (s', i', st, p)) (j, at', h') (v, lt', e', f') =
        let same = one_status ss ok s' v i' (y, lt', e') (st ∙ sym f') in
        (of.edges x y).1 (inr (j, h'.0, at', (impeded_at ss ok d is j y o v h' lt' e').1 (subst (λ z. Impedes z o) same p)))
    resource_edge (event o) (event q) x y h a b = absurd h

    -- the resources at both ends of an edge
    edge_ends : (x y : ℕ) → HasEdge g.edges x y → ((r : Resource) × ResourceAt ss d x r) × ((q : Resource) × ResourceAt ss d y q)
    edge_ends x y h =
        elim ((of.edges x y).0 h) [
          | inl a ↦
              let lt : x < length ss = omega (arith, a.0, count ss ok d is) in
              let (s, e) = element ss x lt in
              ((task s.t, (s, lt, e, refl)), (event s.event, (get_or d.awaits x 0, a.1, awaited_at ss ok d is x s lt e)))
          | inr b ↦
              let (i, in', at, c) = b in
              let lt : y < length ss = omega (arith, impeder_inside d is.formed i y c, count ss ok d is) in
              let (o, f) = element d.events i in' in
              let (v, e) = element ss y lt in
              ((event o, (i, at, (in', f))), (task v.t, (v, lt, e, refl)))
        ]

    event_node : (e : Event) → IsAwaited ss e → (n : ℕ) × ResourceAt ss d n (event e)
    event_node e aw = let (i, lt, at) = (is.awaited e).1 aw in (length d.tasks + i, (i, refl, (lt, at)))

    resource_ends : (r q : Resource) → ResourceEdge ss r q → ((x : ℕ) × ResourceAt ss d x r) × ((y : ℕ) × ResourceAt ss d y q)
    resource_ends (task t) (task u) h = absurd h
    resource_ends (task t) (event e) (s, (j, lt, at), st, se) = ((j, (s, lt, at, st)), event_node e (s, (j, lt, at), se))
    resource_ends (event e) (task u) (aw, (v, (j, lt, at), vt, p)) = (event_node e aw, (j, (v, lt, at, vt)))
    resource_ends (event e) (event f) h = absurd h

    dead_node : (k : ℕ) (s : Status) → k < length ss → get_or ss k s ≡ s → IsInClosedSet (HasEdge g.edges) k ↔ IsDead ss s.t
    dead_node k s lt e =
        let at : ResourceAt ss d k (task s.t) = (s, lt, e, refl) in (
          λ c. resource_to_dead ss s.t (transfer (HasEdge g.edges) (ResourceEdge ss) (ResourceAt ss d) one_resource (λ x y h. (edge_ends x y h).0) edge_resource k (task s.t) at c),
          λ c. transfer (ResourceEdge ss) (HasEdge g.edges) (λ r n. ResourceAt ss d n r) one_node (λ r q h. (resource_ends r q h).0) resource_edge (task s.t) k
              at (dead_to_resource ss s.t c),
        )

    pub resource_dead : (answers : List Bool) (dead : List TaskId) → TellsCycles g.edges answers → IsPick g.tasks answers dead → IsDeadList ss dead
    resource_dead answers dead tells picks =
        let picks' : IsPick d.tasks answers dead = subst (λ ts. IsPick ts answers dead) of.tasks picks in
        dead_picked ss ok d is answers dead (λ k s lt e.
        let closed = tells.sets k (omega (arith, of.nodes, count ss ok d is)) in
        let node = dead_node k s lt e in
        (λ on. node.0 (closed.0 on), λ h. closed.1 (node.1 h))) picks'

    NodesAt : (ℕ × ℕ) → (Resource × Resource) → Type 0
    NodesAt p q = ResourceAt ss d p.0 q.0 × ResourceAt ss d p.1 q.1

    -- as many edges as pairs of the statuses
    pub resource_count : (n : ℕ) → IsCount (λ (p : ℕ × ℕ). HasEdge g.edges p.0 p.1) n → IsCount (λ (q : Resource × Resource). ResourceEdge ss q.0 q.1) n
    unfolding NodesAt
    resource_count n c =
        count_along (λ (p : ℕ × ℕ). HasEdge g.edges p.0 p.1) (λ (q : Resource × Resource). ResourceEdge ss q.0 q.1) NodesAt n c
        (λ p o q a b i. (one_node q.0 p.0 o.0 a.0 b.0 i, one_node q.1 p.1 o.1 a.1 b.1 i))
        (λ p q r a b i. (one_resource p.0 q.0 r.0 a.0 b.0 i, one_resource p.1 q.1 r.1 a.1 b.1 i))
        (λ p h. let ((r, rx), (q, qy)) = edge_ends p.0 p.1 h in ((r, q), (rx, qy), edge_resource p.0 p.1 r q h rx qy))
        (λ q h. let ((x, rx), (y, qy)) = resource_ends q.0 q.1 h in ((x, y), (rx, qy), resource_edge q.0 q.1 x y h rx qy))
