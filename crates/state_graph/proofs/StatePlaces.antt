-- The state graph by the places of events is that of the statuses.
use Rattle.std.proofs.Common.{◌≡◌, ℕ, ◌+◌, ◌<◌, ◌≤◌, List, length, sym, ◌∙◌, subst, arith, get_or, take}
use Rattle.std.specs.Prelude.{Contains, ◌↔◌}
use Rattle.std.proofs.lemmas.List.{get_or-take, length-take-le, take_all}
use Rattle.armus_base.specs.Counts.{IsCount}
use Rattle.armus_base.specs.Graphs.{StateEdge, StateCount, StaysSmall}
use Rattle.armus_base.specs.calls.Relations.{IsInClosedSet}
use Rattle.armus_base.specs.calls.Statuses.{IsInOrder}
use Rattle.armus_base.specs.declared.event.Event.{Event}
use Rattle.armus_base.specs.declared.status.Status.{Status}
use Rattle.armus_base.proofs.Counts.{count_along, count_same}
use Rattle.digraph.specs.calls.Graph.{HasEdge}
use Rattle.dep_state.specs.calls.Deps.{Deps, IsDepsOf}
use Rattle.dep_state.proofs.DeadSets.{IsDead, dead_to_state, state_to_dead}
use Rattle.dep_state.proofs.EventPlaces.{EventAt, one_event, one_event_place, awaited_at, impeded_at}
use Rattle.dep_state.proofs.TaskPlaces.{element, count}
use Rattle.dep_state.proofs.Transfer.{transfer}
use Rattle.state_graph.specs.calls.StateEdges.{IsStatePair}
use Rattle.state_graph.specs.inside.Growing.{IsStateCount, StaysSmallBelow}

module _ (ss : List Status) (ok : IsInOrder ss) (d : Deps) (is : IsDepsOf ss d) where
  sized : length d.tasks ≡ length ss
  sized = count ss ok d is

  module _ (k : ℕ) (le : k ≤ length ss) where
    taken : (m : ℕ) (s : Status) → m < k → get_or ss m s ≡ s → Contains (take k ss) s
    taken m s lt e = (m, rw (length-take-le k ss le) lt, get_or-take k ss m s lt ∙ e)

    from_taken : (s : Status) → Contains (take k ss) s → (m : ℕ) × (m < k) × (get_or ss m s ≡ s)
    from_taken s (m, lt, e) =
        let lt' : m < k = rw (length-take-le k ss le) at lt in
        (m, lt', sym (get_or-take k ss m s lt') ∙ e)

    pub pair_to_state : (i j : ℕ) (r q : Event) → IsStatePair d k i j → EventAt d i r → EventAt d j q → StateEdge (take k ss) r q
    pair_to_state i j r q ((m, ml, mw), (u, ul, c, uw)) ri qj =
        let (s, e) = element ss m (omega arith) in
        let (v, f) = element ss u (omega arith) in
        let se : s.event ≡ r = one_event d i s.event r (subst (λ o. EventAt d o s.event) mw (awaited_at ss ok d is m s (omega arith) e)) ri in
        let ve : v.event ≡ q = one_event d j v.event q (subst (λ o. EventAt d o v.event) uw (awaited_at ss ok d is u v (omega arith) f)) qj in
        ((s, taken m s ml e, se), (v, taken u v ul f, (impeded_at ss ok d is i u r v ri (omega arith) f).0 c, ve))

    pub state_to_pair : (i j : ℕ) (r q : Event) → StateEdge (take k ss) r q → EventAt d i r → EventAt d j q → IsStatePair d k i j
    state_to_pair i j r q ((s, si, se), (v, vi, p, ve)) ri qj =
        let (m, ml, e) = from_taken s si in
        let (u, ul, f) = from_taken v vi in
        let mw = one_event_place ss ok d is r (get_or d.awaits m 0) i (subst (λ o. EventAt d (get_or d.awaits m 0) o) se (awaited_at ss ok d is m s (omega arith) e)) ri in
        let uw = one_event_place ss ok d is q (get_or d.awaits u 0) j (subst (λ o. EventAt d (get_or d.awaits u 0) o) ve (awaited_at ss ok d is u v (omega arith) f)) qj in
        ((m, ml, mw), (u, ul, (impeded_at ss ok d is i u r v ri (omega arith) f).1 p, uw))

    -- the events of a pair stand at its places
    pair_events : (i j : ℕ) → IsStatePair d k i j → ((r : Event) × EventAt d i r) × ((q : Event) × EventAt d j q)
    pair_events i j ((m, ml, mw), (u, ul, c, uw)) =
        let (s, e) = element ss m (omega arith) in
        let (v, f) = element ss u (omega arith) in (
          (s.event, subst (λ o. EventAt d o s.event) mw (awaited_at ss ok d is m s (omega arith) e)),
          (v.event, subst (λ o. EventAt d o v.event) uw (awaited_at ss ok d is u v (omega arith) f)),
        )

    edge_places : (r q : Event) → StateEdge (take k ss) r q → ((i : ℕ) × EventAt d i r) × ((j : ℕ) × EventAt d j q)
    edge_places r q ((s, si, se), (v, vi, p, ve)) =
        let (m, ml, e) = from_taken s si in
        let (u, ul, f) = from_taken v vi in (
          (get_or d.awaits m 0, subst (λ o. EventAt d (get_or d.awaits m 0) o) se (awaited_at ss ok d is m s (omega arith) e)),
          (get_or d.awaits u 0, subst (λ o. EventAt d (get_or d.awaits u 0) o) ve (awaited_at ss ok d is u v (omega arith) f)),
        )

    PairAt : (ℕ × ℕ) → (Event × Event) → Type 0
    PairAt p e = EventAt d p.0 e.0 × EventAt d p.1 e.1

    -- as many pairs of places as of events
    pub state_count : (n : ℕ) → IsStateCount d k n → StateCount ss k n
    unfolding PairAt
    state_count n c =
        count_along (λ (p : ℕ × ℕ). IsStatePair d k p.0 p.1) (λ (e : Event × Event). StateEdge (take k ss) e.0 e.1) PairAt n c
        (λ p o e a b i. (one_event_place ss ok d is e.0 p.0 o.0 a.0 b.0 i, one_event_place ss ok d is e.1 p.1 o.1 a.1 b.1 i))
        (λ p e f a b i. (one_event d p.0 e.0 f.0 a.0 b.0 i, one_event d p.1 e.1 f.1 a.1 b.1 i))
        (λ p s. let ((r, ri), (q, qj)) = pair_events p.0 p.1 s in ((r, q), (ri, qj), pair_to_state p.0 p.1 r q s ri qj))
        (λ e s. let ((i, ri), (j, qj)) = edge_places e.0 e.1 s in ((i, j), (ri, qj), state_to_pair i j e.0 e.1 s ri qj))

    pub count_state : (n : ℕ) → StateCount ss k n → IsStateCount d k n
    unfolding PairAt
    count_state n c =
        count_along (λ (e : Event × Event). StateEdge (take k ss) e.0 e.1) (λ (p : ℕ × ℕ). IsStatePair d k p.0 p.1) (λ e p. PairAt p e) n c
        (λ e f p a b i. (one_event d p.0 e.0 f.0 a.0 b.0 i, one_event d p.1 e.1 f.1 a.1 b.1 i))
        (λ e p o a b i. (one_event_place ss ok d is e.0 p.0 o.0 a.0 b.0 i, one_event_place ss ok d is e.1 p.1 o.1 a.1 b.1 i))
        (λ e s. let ((i, ri), (j, qj)) = edge_places e.0 e.1 s in ((i, j), (ri, qj), state_to_pair i j e.0 e.1 s ri qj))
        (λ p s. let ((r, ri), (q, qj)) = pair_events p.0 p.1 s in ((r, q), (ri, qj), pair_to_state p.0 p.1 r q s ri qj))

  pub stays_small : StaysSmallBelow d (length d.tasks + 1) → StaysSmall ss
  stays_small small k n le c = small k n (omega (arith, sized)) (count_state k le n c)

  -- a task is dead where its event's place is in a closed set of the graph of all pairs
  module _ (edges : List (List ℕ)) (pairs : (i j : ℕ) → HasEdge edges i j ↔ IsStatePair d (length ss) i j) where
    whole : take (length ss) ss ≡ ss
    whole = take_all (length ss) ss (omega arith)

    edge_state : (i j : ℕ) (r q : Event) → HasEdge edges i j → EventAt d i r → EventAt d j q → StateEdge ss r q
    edge_state i j r q h ri qj = subst (λ x. StateEdge x r q) whole (pair_to_state (length ss) (omega arith) i j r q ((pairs i j).0 h) ri qj)

    state_edge : (r q : Event) (i j : ℕ) → StateEdge ss r q → EventAt d i r → EventAt d j q → HasEdge edges i j
    state_edge r q i j h ri qj = (pairs i j).1 (state_to_pair (length ss) (omega arith) i j r q (subst (λ x. StateEdge x r q) (sym whole) h) ri qj)

    from_edge : (i j : ℕ) → HasEdge edges i j → (r : Event) × EventAt d i r
    from_edge i j h = (pair_events (length ss) (omega arith) i j ((pairs i j).0 h)).0

    to_edge : (r q : Event) → StateEdge ss r q → (i : ℕ) × EventAt d i r
    to_edge r q h = (edge_places (length ss) (omega arith) r q (subst (λ x. StateEdge x r q) (sym whole) h)).0

    pub dead_event : (k : ℕ) (s : Status) → k < length ss → get_or ss k s ≡ s → IsInClosedSet (HasEdge edges) (get_or d.awaits k 0) ↔ IsDead ss s.t
    dead_event k s lt e =
        let at = awaited_at ss ok d is k s lt e in (
          λ c. state_to_dead ss s (k, lt, e) (transfer (HasEdge edges) (StateEdge ss) (EventAt d) (one_event d) from_edge edge_state (get_or d.awaits k 0) s.event at c),
          λ c. transfer (StateEdge ss) (HasEdge edges) (λ r i. EventAt d i r) (one_event_place ss ok d is) to_edge state_edge s.event (get_or d.awaits k 0) at
              (dead_to_state ss ok s (k, lt, e) c),
        )

    -- as many edges as pairs of the statuses
    pub edges_count : (n : ℕ) → IsCount (λ (p : ℕ × ℕ). HasEdge edges p.0 p.1) n → IsCount (λ (r : Event × Event). StateEdge ss r.0 r.1) n
    edges_count n c =
        let all : IsStateCount d (length ss) n = count_same (λ (p : ℕ × ℕ). HasEdge edges p.0 p.1) (λ (p : ℕ × ℕ). IsStatePair d (length ss) p.0 p.1) n c (λ p. pairs p.0 p.1) in
        subst (λ x. IsCount (λ (r : Event × Event). StateEdge x r.0 r.1) n) whole (state_count (length ss) (omega arith) n all)
