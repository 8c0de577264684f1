-- Events in order, each once.
use Rattle.std.proofs.Common.{◌≡◌, ℕ, ◌+◌, ◌-◌, ◌<◌, ◌≤◌, false, List, [], ◌∷◌, ◌++◌, length, refl, sym, ap, ◌∙◌, subst, inl, inr, arith, get_or, take, Ordering, Less, Equal, Greater}
use Rattle.std.specs.Prelude.{Contains, ◌↔◌, All, AllPairs, map}
use Rattle.std.proofs.lemmas.Bool.{cases_eq}
use Rattle.std.proofs.lemmas.List.{get_or_default, get_or-take, length-take-le, take_more, length-append, length-map}
use Rattle.std.proofs.lemmas.List.Elements.{Contains-append_left, Contains-push, Contains-push_cases, All-push}
use Rattle.std.proofs.lemmas.List.Quantifiers.{all_pairs_push}
use Rattle.armus_base.specs.declared.event.Event.{Event}
use Rattle.std.specs.List.Sorted.{IsSorted, IsPermutation}
use Rattle.std.specs.Ordering.{MatchOrdering, is_lt, ordering_then, nat_cmp}
use Rattle.std.proofs.lemmas.Cmp.{ranked}
use Rattle.std.proofs.lemmas.List.Sorted.{Contains-permutation, IsPermutation-sym, length_permutation}
use Rattle.armus_base.specs.declared.status.Status.{Status}
use Rattle.dep_state.proofs.DeadSets.{Contains-map, Contains-from_map}
use Rattle.dep_state.specs.calls.Deps.{IsEventBefore}
use Rattle.dep_state.specs.inside.Made.{NotAfter, NeverFalls, IsFresh, IsDistinctOf, IsEventsOf}

pub not_after_then : (a b c : Event) → NotAfter a b → IsEventBefore b c → IsEventBefore a c
not_after_then a b c (inl l) (inl m) = inl (omega arith)
not_after_then a b c (inl l) (inr m) = inl (omega (arith, m.0))
not_after_then a b c (inr l) (inl m) = inl (omega (arith, l.0))
not_after_then a b c (inr l) (inr m) = inr (l.0 ∙ m.0, omega (arith, l.1, m.1))

pub before_then : (a b c : Event) → IsEventBefore a b → NotAfter b c → IsEventBefore a c
before_then a b c (inl l) (inl m) = inl (omega arith)
before_then a b c (inl l) (inr m) = inl (omega (arith, m.0))
before_then a b c (inr l) (inl m) = inl (omega (arith, l.0))
before_then a b c (inr l) (inr m) = inr (l.0 ∙ m.0, omega (arith, l.1, m.1))

pub before_not_after : (a b : Event) → IsEventBefore a b → NotAfter a b
before_not_after a b (inl l) = inl l
before_not_after a b (inr l) = inr (l.0, omega (arith, l.1))

event_of : ℕ → ℕ → Event
event_of p n = record { p = record { 0 = p }; n = n }

pub event_same : (a b : Event) → a.p.0 ≡ b.p.0 → a.n ≡ b.n → a ≡ b
unfolding event_of
event_same a b e f = ap (λ x. event_of x a.n) e ∙ ap (λ y. event_of b.p.0 y) f

pub same_event : (a b : Event) → NotAfter a b → (IsEventBefore a b → ⊥) → a ≡ b
same_event a b (inl l) no_way = absurd (no_way (inl l))
same_event a b (inr (e, le)) no_way =
    elim (cases_eq a.n b.n) [
      | inl same ↦ event_same a b e same
      | inr ne ↦ absurd (no_way (inr (e, omega arith)))
    ]

pub by_orders :
    (a b : Event) (o q : Ordering) → MatchOrdering o (b.p.0 < a.p.0) (b.p.0 ≡ a.p.0) (a.p.0 < b.p.0) → MatchOrdering q (b.n < a.n) (b.n ≡ a.n) (a.n < b.n) →
    is_lt (ordering_then o q) ≡ false → NotAfter a b
by_orders a b Less q m n e = absurd cc
by_orders a b Equal Less m n e = absurd cc
by_orders a b Equal Equal m n e = inr (sym m, omega (arith, n))
by_orders a b Equal Greater m n e = inr (sym m, omega (arith, n))
by_orders a b Greater q m n e = inl m

-- a sorted list never falls
pub never_falls : (es : List Event) → IsSorted (λ a b. ordering_then (nat_cmp a.p.0 b.p.0) (nat_cmp a.n b.n)) es → NeverFalls es
never_falls es sorted k d lt =
    let a : Event = get_or es k d in
    let b : Event = get_or es (k + 1) d in
    by_orders a b (nat_cmp b.p.0 a.p.0) (nat_cmp b.n a.n) (ranked b.p.0 a.p.0 (nat_cmp b.p.0 a.p.0) refl) (ranked b.n a.n (nat_cmp b.n a.n) refl) (sorted k d (omega arith) lt)

-- the events of the first i, each once
pub record IsDistinctTo (all : List Event) (i : ℕ) (es : List Event) : Type 0 where
  pub ordered : AllPairs IsEventBefore es
  pub exact : (e : Event) → Contains es e ↔ Contains (take i all) e
  pub few : length es ≤ i
  pub below : (d : Event) → 0 < i → All (λ e. NotAfter e (get_or all (i - 1) d)) es

pub distinct_none : (all : List Event) → IsDistinctTo all 0 []
distinct_none all =
    record {
      ordered = λ i j d lt in'. absurd (omega arith);
      exact = λ e. (λ h. h, λ h. h);
      few = omega arith;
      below = λ d lt. absurd (omega arith);
    }

module _ (all es : List Event) (i : ℕ) (h : IsDistinctTo all i es) (x : Event) (lt : i < length all) (is : get_or all i x ≡ x) where
  more : take (i + 1) all ≡ take i all ++ x ∷ []
  more = rw is at (take_more all i x lt)

  here : (d : Event) → get_or all (i + 1 - 1) d ≡ x
  here d =
      let e : i + 1 - 1 ≡ i = omega arith in
      ap (λ j. get_or all j d) e ∙ get_or_default all i d x lt ∙ is

  below_new : IsFresh all i → (k : ℕ) (d : Event) → k < length es → IsEventBefore (get_or es k d) x
  below_new fresh k d in' =
      elim (fresh x) [
        | inl z ↦ absurd (omega (arith, h.few))
        | inr before ↦ not_after_then (get_or es k d) (get_or all (i - 1) x) x (h.below x (omega (arith, h.few)) k d in')
            (subst (λ y. IsEventBefore (get_or all (i - 1) x) y) is before)
      ]

  pub distinct_push : IsFresh all i → IsDistinctTo all (i + 1) (es ++ x ∷ [])
  distinct_push fresh =
      record {
        ordered = all_pairs_push IsEventBefore es x h.ordered (below_new fresh);
        exact = λ e. rw more (
          λ c. elim (Contains-push_cases es x e c) [
            | inl l ↦ Contains-append_left (take i all) (x ∷ []) e ((h.exact e).0 l)
            | inr f ↦
                subst (λ y. Contains (take i all ++ x ∷ []) y) f (Contains-push (take i all) x)
          ],
          λ c. elim (Contains-push_cases (take i all) x e c) [
            | inl l ↦ Contains-append_left es (x ∷ []) e ((h.exact e).1 l)
            | inr f ↦
                subst (λ y. Contains (es ++ x ∷ []) y) f (Contains-push es x)
          ],
        );
        few = omega (arith, h.few, length-append es (x ∷ []));
        below = λ d pos. rw (here d) (All-push (λ e. NotAfter e x) es x (λ k o in'. before_not_after (get_or es k o) x (below_new fresh k o in')) (inr (refl, omega arith)));
      }

  pub distinct_skip : NeverFalls all → (IsFresh all i → ⊥) → IsDistinctTo all (i + 1) es
  distinct_skip rising stale =
      let pos : 0 < i = elim (cases_eq i 0) [ inl z ↦ absurd (stale (λ d. inl z)) | inr ne ↦ omega arith ] in
      let j : i - 1 + 1 ≡ i = omega arith in
      let step : NotAfter (get_or all (i - 1) x) x = subst (λ y. NotAfter (get_or all (i - 1) x) y) (ap (λ k. get_or all k x) j ∙ is) (rising (i - 1) x (omega arith)) in
      let same : get_or all (i - 1) x ≡ x =
      same_event (get_or all (i - 1) x) x step (λ b. stale
      (λ d. inr (subst (λ y. IsEventBefore y (get_or all i d)) (get_or_default all (i - 1) x d (omega arith))
      (subst (λ y. IsEventBefore (get_or all (i - 1) x) y) (sym is ∙ get_or_default all i x d lt) b)))) in
      let old : Contains (take i all) x = (i - 1, omega (arith, length-take-le i all (omega arith)), get_or-take i all (i - 1) x (omega arith) ∙ same) in
      record {
        ordered = h.ordered;
        exact = λ e. rw more (
          λ c. Contains-append_left (take i all) (x ∷ []) e ((h.exact e).0 c),
          λ c. elim (Contains-push_cases (take i all) x e c) [ inl l ↦ (h.exact e).1 l | inr f ↦ (h.exact e).1 (subst (λ y. Contains (take i all) y) f old) ],
        );
        few = omega (arith, h.few);
        below = λ d p. rw (here d) (subst (λ y. All (λ e. NotAfter e y) es) same (h.below x pos));
      }

-- no event is before itself
pub not_before_itself : (a b : Event) → a ≡ b → IsEventBefore a b → ⊥
not_before_itself a b e (inl l) = omega (arith, ap (λ x. x.p.0) e)
not_before_itself a b e (inr r) = omega (arith, ap (λ x. x.n) e, r.1)

-- the events that the statuses await
pub events_of :
    (ss : List Status) (all sorted es : List Event) → all ≡ map (λ s. s.event) ss → IsPermutation all sorted → IsDistinctOf sorted es → IsEventsOf ss es
events_of ss all sorted es is moved h =
    record {
      ordered = h.ordered;
      exact = λ e. (
        λ c.
            let m : Contains all e = Contains-permutation sorted all e (IsPermutation-sym all sorted moved) ((h.exact e).0 c) in
            Contains-from_map (λ s. s.event) ss e (subst (λ x. Contains x e) is m),
        λ (s, i, f).
            let m : Contains all s.event = subst (λ x. Contains x s.event) (sym is) (Contains-map (λ v. v.event) ss s i) in
            (h.exact e).1 (Contains-permutation all sorted e moved (subst (λ y. Contains all y) f m)),
      );
      few = omega (arith, h.few, length_permutation all sorted moved, ap length is, length-map ss (λ s. s.event));
    }
