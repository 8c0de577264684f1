-- A task comes to the state graph: its event is awaited, and what goes on at it is to be followed.
use Rattle.std.proofs.Common.{◌≡◌, ℕ, ◌+◌, ◌<◌, Bool, true, false, List, [], length, sym, ap, ◌∙◌, subst, ◌⊎◌, inl, inr, arith, get_or}
use Rattle.std.specs.Prelude.{Contains, ◌↔◌}
use Rattle.std.proofs.lemmas.Bool.{cases_Bool, cases_eq, cases_lt}
use Rattle.digraph.specs.calls.Graph.{HasEdge}
use Rattle.dep_state.specs.calls.Deps.{Deps, IsAwaitedBy, impeders_of}
use Rattle.state_graph.specs.inside.Growing.{AreSized, IsFirstFrom, IsGrown, IsGrowing, IsNextAt, IsPassedPair, IsPassedUpTo}

-- the task at k comes: its event is awaited from now on, and the events that go on at it are to be followed
module _ (d : Deps) (k event : ℕ) (edges : List (List ℕ)) (seen : List Bool) (next : List ℕ) (waiting : List (List ℕ)) (h : IsGrown d k edges seen next waiting) where
  module _
      (is : event ≡ get_or d.awaits k 0) (now : List Bool) (left : List ℕ) (rows : List (List ℕ)) (sized : AreSized d edges now next rows)
      (flag : (j : ℕ) → (get_or now j false ≡ true) ↔ ((j ≡ event) ⊎ (get_or seen j false ≡ true)))
      (lefts : (x : ℕ) → Contains left x ↔ (HasEdge waiting k x ⊎ ((x ≡ event) × (get_or seen event false ≡ false))))
      (same : (t : ℕ) → k < t → get_or rows t [] ≡ get_or waiting t []) where
    still : (i : ℕ) → get_or seen i false ≡ true → get_or now i false ≡ true
    still i s = (flag i).1 (inr s)

    unseen : (i : ℕ) → get_or now i false ≡ false → get_or seen i false ≡ false
    unseen i f = elim (cases_Bool (get_or seen i false)) [ inl on ↦ absurd (let n = still i on in cc) | inr off ↦ off ]

    new_one : (i : ℕ) → get_or now i false ≡ true → get_or seen i false ≡ false → i ≡ event
    new_one i on off = elim ((flag i).0 on) [ inl e ↦ e | inr s ↦ absurd cc ]

    awaited_more : (i : ℕ) → (get_or now i false ≡ true) ↔ IsAwaitedBy d (k + 1) i
    awaited_more i = (
      λ t. elim ((flag i).0 t) [
        | inl e ↦ (k, omega arith, sym is ∙ sym e)
        | inr old ↦ let (m, lt, w) = (h.awaited i).0 old in (m, omega arith, w)
      ],
      λ (m, lt, w). (flag i).1 (elim (cases_eq m k) [
        | inl e ↦ inl (sym w ∙ ap (λ j. get_or d.awaits j 0) e ∙ sym is)
        | inr ne ↦ inr ((h.awaited i).1 (m, omega arith, w))
      ]),
    )

    known : (x : ℕ) → Contains left x → get_or now x false ≡ true
    known x c = elim ((lefts x).0 c) [ inl w ↦ still x ((h.waits k x (omega arith)).0 w).0 | inr (n) ↦ (flag x).1 (inl n.0) ]

    passed : (i : ℕ) → get_or now i false ≡ true → (Contains left i × IsPassedUpTo (impeders_of d i) k (get_or next i 0)) ⊎ IsFirstFrom (impeders_of d i) (k + 1) (get_or next i 0)
    passed i on = elim (cases_Bool (get_or seen i false)) [
      | inr off ↦
          let e = new_one i on off in
          let none = h.fresh i off in
          inl ((lefts i).1 (inr (e, subst (λ j. get_or seen j false ≡ false) e off)), record { within = omega arith; before = λ m lt. absurd (omega arith) })
      | inl s ↦
          let f = h.passed i s in
          elim (cases_lt (get_or next i 0) (length (impeders_of d i))) [
            | inr past ↦ inr (record { within = f.within; before = λ m lt. let b = f.before m lt in omega arith; after = λ lt. absurd (omega arith) })
            | inl lt ↦ elim (cases_eq (get_or (impeders_of d i) (get_or next i 0) 0) k) [
              | inl e ↦ inl ((lefts i).1 (inl ((h.waits k i (omega arith)).1 (s, lt, e))), record { within = f.within; before = λ m l. let b = f.before m l in omega arith })
              | inr ne ↦ inr (record { within = f.within; before = λ m l. let b = f.before m l in omega arith; after = λ l. let a = f.after l in omega arith })
            ]
          ]
    ]

    pairs : (i j : ℕ) → HasEdge edges i j ↔ IsPassedPair d now next i j
    pairs i j = (
      λ x. let p = (h.pairs i j).0 x in (still i p.0, p.1),
      λ (on, q). elim (cases_Bool (get_or seen i false)) [
        | inl s ↦ (h.pairs i j).1 (s, q)
        | inr off ↦ let (m, lt, e) = q in absurd (let z = h.fresh i off in omega arith)
      ],
    )

    waiting_on : (t e : ℕ) → k < t → IsNextAt d now next t e → Contains left e ⊎ HasEdge rows t e
    waiting_on t e lt (on, inrow, at) = elim (cases_Bool (get_or seen e false)) [
      | inl s ↦ inr (subst (λ (r : List ℕ). Contains r e) (sym (same t lt)) ((h.waits t e (omega arith)).1 (s, inrow, at)))
      | inr off ↦ let n = new_one e on off in inl ((lefts e).1 (inr (n, subst (λ j. get_or seen j false ≡ false) n off)))
    ]

    waits : (t e : ℕ) → k < t → HasEdge rows t e → IsNextAt d now next t e
    waits t e lt x = let n = (h.waits t e (omega arith)).0 (subst (λ (r : List ℕ). Contains r e) (same t lt) x) in (still e n.0, n.1, n.2)

    pub growing : IsGrowing d k left edges now next rows
    growing =
        record {
          sized = sized;
          awaited = awaited_more;
          fresh = λ i off. h.fresh i (unseen i off);
          known = known;
          passed = passed;
          pairs = pairs;
          waits = waits;
          left_or_waits = waiting_on;
        }
