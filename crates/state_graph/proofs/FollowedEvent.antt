-- An event is followed: what impedes it is passed up to the task that came.
use Rattle.std.proofs.Common.{◌≡◌, ℕ, ◌+◌, ◌<◌, ◌≤◌, Bool, true, false, List, ◌∷◌, length, sym, ap, ◌∙◌, subst, ◌⊎◌, inl, inr, arith, get_or, set, get_or-set_same, get_or-set_other, length-set}
use Rattle.std.specs.Prelude.{Contains, ◌↔◌}
use Rattle.std.proofs.lemmas.Bool.{cases_eq, cases_lt}
use Rattle.std.proofs.lemmas.List.{get_or_past}
use Rattle.digraph.specs.calls.Graph.{HasEdge}
use Rattle.armus_base.proofs.Elements.{Contains-cons_cases, Contains-head, Contains-tail}
use Rattle.dep_state.specs.calls.Deps.{Deps, impeders_of}
use Rattle.state_graph.specs.inside.Growing.{IsFirstFrom, IsGrowing, IsNextAt, IsPairBetween, IsPassedPair, IsPassedUpTo, IsPassing}

-- one event is followed
module _ (d : Deps) (k event : ℕ) (left : List ℕ) (edges : List (List ℕ)) (seen : List Bool) (next : List ℕ) (waiting : List (List ℕ))
    (h : IsGrowing d k (event ∷ left) edges seen next waiting) where
  module _
      (inside : event < length d.events) (at : ℕ) (now rows : List (List ℕ)) (p : IsPassing (impeders_of d event) k (get_or next event 0) at)
      (nodes : length now ≡ length edges)
      (adds : (i j : ℕ) → HasEdge now i j ↔ (HasEdge edges i j ⊎ IsPairBetween d event (get_or next event 0) at i j))
      (tasks : length rows ≡ length waiting)
      (puts : (t e : ℕ) → HasEdge rows t e ↔ (HasEdge waiting t e ⊎ ((at < length (impeders_of d event)) × (t ≡ get_or (impeders_of d event) at 0) × (e ≡ event)))) where
    here : get_or (set next event at) event 0 ≡ at
    here = get_or-set_same next event at 0 (omega (arith, h.sized.places))

    there : (i : ℕ) → (i ≡ event → ⊥) → get_or (set next event at) i 0 ≡ get_or next i 0
    there i ne = get_or-set_other next event i at 0 ne

    on : get_or seen event false ≡ true
    on = h.known event (Contains-head event left)

    rest : (x : ℕ) → (x ≡ event → ⊥) → Contains (event ∷ left) x → Contains left x
    rest x ne c = elim (Contains-cons_cases event left x c) [ inl e ↦ absurd (ne (sym e)) | inr t ↦ t ]

    fresh : (i : ℕ) → get_or seen i false ≡ false → get_or (set next event at) i 0 ≡ 0
    fresh i off = there i (λ e. let s = subst (λ j. get_or seen j false ≡ true) (sym e) on in absurd cc) ∙ h.fresh i off

    first : IsFirstFrom (impeders_of d event) (k + 1) at
    first =
        record {
          within = p.within;
          before = λ m lt. elim (cases_lt m (get_or next event 0)) [
            | inl l ↦ elim (h.passed event on) [ inl q ↦ let b = q.1.before m l in omega arith | inr f ↦ f.before m l ]
            | inr past ↦ let b = p.below m past lt in omega arith
          ];
          after = λ lt. let a = p.after lt in omega arith;
        }

    passed : (i : ℕ) → get_or seen i false ≡ true → (Contains left i × IsPassedUpTo (impeders_of d i) k (get_or (set next event at) i 0)) ⊎
        IsFirstFrom (impeders_of d i) (k + 1) (get_or (set next event at) i 0)
    passed i s = elim (cases_eq i event) [
      | inl e ↦ inr (subst (λ j. IsFirstFrom (impeders_of d j) (k + 1) (get_or (set next event at) j 0)) (sym e) (rw here first))
      | inr ne ↦ rw (there i ne) (elim (h.passed i s) [ inl q ↦ inl (rest i ne q.0, q.1) | inr f ↦ inr f ])
    ]

    pairs : (i j : ℕ) → HasEdge now i j ↔ IsPassedPair d seen (set next event at) i j
    pairs i j = (
      λ x. elim ((adds i j).0 x) [
        | inl old ↦
            let (s, (m, lt, e)) = (h.pairs i j).0 old in
            let more : m < get_or (set next event at) i 0 = elim (cases_eq i event) [
              | inl same ↦ let o = p.onward in let g = ap (λ v. get_or (set next event at) v 0) same ∙ here in let f = ap (λ v. get_or next v 0) same in omega arith
              | inr ne ↦ rw (there i ne) lt
            ] in
            (s, (m, more, e))
        | inr new ↦
            let (ie, (m, from, lt, e)) = new in
            subst (λ v. IsPassedPair d seen (set next event at) v j) (sym ie) (on, (m, rw here lt, e))
      ],
      λ (s, (m, lt, e)). (adds i j).1 (elim (cases_eq i event) [
        | inr ne ↦ inl ((h.pairs i j).1 (s, (m, rw (there i ne) at lt, e)))
        | inl same ↦
            let g = ap (λ v. get_or (set next event at) v 0) same ∙ here in
            let f = ap (λ v. get_or next v 0) same in
            elim (cases_lt m (get_or next event 0)) [
              | inl l ↦ inl ((h.pairs i j).1 (s, (m, omega arith, e)))
              | inr past ↦ inr (same, (m, past, omega arith, subst (λ v. j ≡ get_or d.awaits (get_or (impeders_of d v) m 0) 0) same e))
            ]
      ]),
    )

    -- who waited beyond k at the event has not moved
    unmoved : (t : ℕ) → k < t → IsNextAt d seen next t event → get_or next event 0 ≡ at
    unmoved t lt (s, inrow, e) = elim (cases_lt (get_or next event 0) at) [
      | inl l ↦ absurd (let b = p.below (get_or next event 0) (omega arith) l in omega arith)
      | inr past ↦ (let o = p.onward in let same : get_or next event 0 ≡ at = omega arith in same)
    ]

    waits : (t x : ℕ) → k < t → HasEdge rows t x → IsNextAt d seen (set next event at) t x
    waits t x lt c = elim ((puts t x).0 c) [
      | inl old ↦
          let (s, inrow, e) = h.waits t x lt old in
          elim (cases_eq x event) [
            | inl same ↦
                let n = unmoved t lt (subst (λ v. IsNextAt d seen next t v) same (s, inrow, e)) in
                let g : get_or (set next event at) x 0 ≡ get_or next x 0 = ap (λ v. get_or (set next event at) v 0) same ∙ here ∙ sym n ∙ ap (λ v. get_or next v 0) (sym same) in
                (s, rw g inrow, rw g e)
            | inr ne ↦ (s, rw (there x ne) inrow, rw (there x ne) e)
          ]
      | inr new ↦ let (inrow, e, same) = new in subst (λ v. IsNextAt d seen (set next event at) t v) (sym same) (on, rw here inrow, rw here (sym e))
    ]

    waiting_on : (t x : ℕ) → k < t → IsNextAt d seen (set next event at) t x → Contains left x ⊎ HasEdge rows t x
    waiting_on t x lt (s, inrow, e) = elim (cases_eq x event) [
      | inl same ↦
          let g = ap (λ v. get_or (set next event at) v 0) same ∙ here in
          let r = ap (λ v. impeders_of d v) same in
          inr ((puts t x).1 (inr (rw (← g, ← r) inrow, rw (← g, ← r) (sym e), same)))
      | inr ne ↦ elim (h.left_or_waits t x lt (s, rw (there x ne) at inrow, rw (there x ne) at e)) [
        | inl c ↦ inl (rest x ne c)
        | inr c ↦ inr ((puts t x).1 (inl c))
      ]
    ]

    pub followed : IsGrowing d k left now seen (set next event at) rows
    followed =
        record {
          sized = record { nodes = nodes ∙ h.sized.nodes; flags = h.sized.flags; places = length-set next event at ∙ h.sized.places; tasks = tasks ∙ h.sized.tasks };
          awaited = h.awaited;
          fresh = fresh;
          known = λ x c. h.known x (Contains-tail event left x c);
          passed = passed;
          pairs = pairs;
          waits = waits;
          left_or_waits = waiting_on;
        }

-- a flag that is set has a place
set_inside : (xs : List Bool) (i : ℕ) → get_or xs i false ≡ true → i < length xs
set_inside xs i on = elim (cases_lt i (length xs)) [ inl lt ↦ lt | inr past ↦ absurd (let off = get_or_past xs i false past in cc) ]

-- what is to be followed is an event, and no more of its row was passed than there is
module _ (d : Deps) (k : ℕ) (left : List ℕ) (edges : List (List ℕ)) (seen : List Bool) (next : List ℕ) (waiting : List (List ℕ))
    (h : IsGrowing d k left edges seen next waiting) where
  pub due_inside : (e : ℕ) → Contains left e → e < length d.events
  due_inside e c = omega (arith, set_inside seen e (h.known e c), h.sized.flags)

  pub due_within : (e : ℕ) → Contains left e → get_or next e 0 ≤ length (impeders_of d e)
  due_within e c = elim (h.passed e (h.known e c)) [ inl q ↦ q.1.within | inr f ↦ f.within ]
