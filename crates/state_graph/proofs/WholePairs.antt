-- The pairs of the state graph, event by event.
use Rattle.std.proofs.Common.{◌≡◌, ℕ, ◌+◌, ◌<◌, List, length, sym, subst, ◌⊎◌, inl, inr, arith, get_or}
use Rattle.std.specs.Prelude.{Contains, ◌↔◌}
use Rattle.std.proofs.lemmas.Bool.{cases_eq}
use Rattle.digraph.specs.calls.Graph.{HasEdge}
use Rattle.dep_state.specs.calls.Deps.{Deps, AreRelations, impeders_of}
use Rattle.dep_state.proofs.TaskPlaces.{row_some, impeder_inside}
use Rattle.state_graph.specs.calls.StateEdges.{IsStatePair}

-- a task impedes the event at i and awaits the event at j
abbrev pub IsPairBy : Deps → ℕ → ℕ → Type 0
IsPairBy d i j = (u : ℕ) × Contains (impeders_of d i) u × (j ≡ get_or d.awaits u 0)

-- the pairs of one more event
pub event_more :
    (d : Deps) (mid now : List (List ℕ)) (n : ℕ) → ((i j : ℕ) → HasEdge mid i j ↔ ((i < n) × IsPairBy d i j)) →
    ((i j : ℕ) → HasEdge now i j ↔ (HasEdge mid i j ⊎ ((u : ℕ) × Contains (impeders_of d n) u × ((i ≡ n) × (j ≡ get_or d.awaits u 0))))) →
    (i j : ℕ) → HasEdge now i j ↔ ((i < n + 1) × IsPairBy d i j)
event_more d mid now n inv adds i j = (
  λ h. elim ((adds i j).0 h) [
    | inl l ↦ let (a, b) = (inv i j).0 l in (omega arith, b)
    | inr r ↦ let (u, c, (e, f)) = r in (omega (arith, e), (u, subst (λ x. Contains (impeders_of d x) u) (sym e) c, f))
  ],
  λ (lt, (u, c, f)). (adds i j).1 (elim (cases_eq i n) [
    | inl e ↦ inr (u, subst (λ x. Contains (impeders_of d x) u) e c, (e, f))
    | inr ne ↦ inl ((inv i j).1 (omega arith, (u, c, f)))
  ]),
)

-- each event is awaited, so these are all pairs
pub all_pairs :
    (d : Deps) (ok : AreRelations d) (edges : List (List ℕ)) (n : ℕ) → n ≡ length d.events → ((i j : ℕ) → HasEdge edges i j ↔ ((i < n) × IsPairBy d i j)) →
    (i j : ℕ) → HasEdge edges i j ↔ IsStatePair d (length d.tasks) i j
all_pairs d ok edges n same inv i j = (
  λ h. let (lt, (u, c, f)) = (inv i j).0 h in (ok.each_awaited i (omega arith), (u, impeder_inside d ok i u c, c, sym f)),
  λ ((m, ml, mw), (u, ul, c, w)). (inv i j).1 (omega (arith, row_some d.impeders i u c, ok.impeders_sized), (u, c, sym w)),
)
