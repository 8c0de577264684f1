-- What has grown with some tasks added, and what its edges are.
use Rattle.std.proofs.Common.{◌≡◌, ℕ, ◌+◌, ◌*◌, ◌<◌, ◌≤◌, Bool, true, false, List, [], length, sym, ap, ◌∙◌, subst, inl, inr, arith, get_or, replicate}
use Rattle.std.specs.Prelude.{Contains, ◌↔◌}
use Rattle.std.proofs.lemmas.Bool.{cases_eq, cases_lt}
use Rattle.std.proofs.lemmas.List.{get_or_default, get_or_past, get_or-replicate, length-replicate}
use Rattle.std.proofs.lemmas.List.Elements.{Contains-get_or}
use Rattle.digraph.specs.calls.Graph.{HasEdge}
use Rattle.armus_base.specs.Counts.{IsCount}
use Rattle.armus_base.proofs.Counts.{count_same, count_unique, count_none}
use Rattle.armus_base.proofs.Elements.{nothing_in_nil}
use Rattle.dep_state.specs.calls.Deps.{Deps, AreRelations, impeders_of}
use Rattle.state_graph.specs.calls.StateEdges.{IsStatePair}
use Rattle.state_graph.specs.inside.Growing.{IsGrown, IsGrowing, IsStateCount, RowsAscend, StaysSmallBelow}
use Rattle.digraph.proofs.AddedEdges.{no_edge}
use Rattle.dep_state.proofs.TaskPlaces.{impeder_inside}

-- all were followed
pub grown_more :
    (d : Deps) (k : ℕ) (edges : List (List ℕ)) (seen : List Bool) (next : List ℕ) (waiting : List (List ℕ)) → IsGrowing d k [] edges seen next waiting →
    IsGrown d (k + 1) edges seen next waiting
grown_more d k edges seen next waiting h =
    record {
      sized = h.sized;
      awaited = h.awaited;
      fresh = h.fresh;
      passed = λ i s. elim (h.passed i s) [ inl q ↦ absurd (nothing_in_nil i q.0) | inr f ↦ f ];
      pairs = h.pairs;
      waits = λ t e le. (λ x. h.waits t e (omega arith) x, λ x. elim (h.left_or_waits t e (omega arith) x) [ inl c ↦ absurd (nothing_in_nil e c) | inr w ↦ w ]);
    }

module _ (d : Deps) (k : ℕ) (edges : List (List ℕ)) (seen : List Bool) (next : List ℕ) (waiting : List (List ℕ)) (h : IsGrown d k edges seen next waiting) where
  -- the edges are the pairs of the first k tasks, where what a row has below k is what was passed of it
  module _ (behind : (i m : ℕ) → get_or seen i false ≡ true → m < length (impeders_of d i) → get_or (impeders_of d i) m 0 < k → m < get_or next i 0) where
    pub pairs_by : (i j : ℕ) → HasEdge edges i j ↔ IsStatePair d k i j
    pairs_by i j = (
      λ x.
          let (s, (m, lt, e)) = (h.pairs i j).0 x in
          let f = h.passed i s in
          let w = f.within in
          ((h.awaited i).0 s, (get_or (impeders_of d i) m 0, f.before m lt, Contains-get_or (impeders_of d i) m 0 (omega arith), sym e)),
      λ (a, (u, lt, c, e)).
          let s = (h.awaited i).1 a in
          let (m, l, is) = c in
          let at : get_or (impeders_of d i) m 0 ≡ u = get_or_default (impeders_of d i) m 0 u l ∙ is in
          (h.pairs i j).1 (s, (m, behind i m s l (omega arith), sym e ∙ ap (λ v. get_or d.awaits v 0) (sym at))),
    )

  module _ (up : RowsAscend d) where
    pub grown_pairs : (i j : ℕ) → HasEdge edges i j ↔ IsStatePair d k i j
    grown_pairs = pairs_by (λ i m s l lt. elim (cases_lt m (get_or next i 0)) [
      | inl before ↦ before
      | inr past ↦ absurd (
          let after = (h.passed i s).after (omega arith) in
          elim (cases_eq (get_or next i 0) m) [
            | inl e ↦ (let g = ap (λ v. get_or (impeders_of d i) v 0) e in omega arith)
            | inr ne ↦ (let a = up i (get_or next i 0) m 0 (omega arith) l in omega arith)
          ])
    ])

    module _ (n : ℕ) (c : IsCount (λ (p : ℕ × ℕ). HasEdge edges p.0 p.1) n) where
      pub grown_count : IsStateCount d k n
      grown_count = count_same (λ (p : ℕ × ℕ). HasEdge edges p.0 p.1) (λ (p : ℕ × ℕ). IsStatePair d k p.0 p.1) n c (λ p. grown_pairs p.0 p.1)

      pub small_more : StaysSmallBelow d k → n ≤ 2 * k → StaysSmallBelow d (k + 1)
      small_more small le j m lt other =
          elim (cases_eq j k) [
            | inl e ↦
                let at : IsStateCount d k m = subst (λ o. IsStateCount d o m) e other in
                omega (arith, count_unique (λ (p : ℕ × ℕ). IsStatePair d k p.0 p.1) m n at grown_count)
            | inr ne ↦ small j m (omega arith) other
          ]

  -- with all tasks added these are all pairs
  pub whole_pairs : AreRelations d → k ≡ length d.tasks → (i j : ℕ) → HasEdge edges i j ↔ IsStatePair d k i j
  whole_pairs ok all = pairs_by (λ i m s l lt. elim (cases_lt m (get_or next i 0)) [
    | inl before ↦ before
    | inr past ↦ absurd (
        let inrow : get_or next i 0 < length (impeders_of d i) = omega arith in
        let after = (h.passed i s).after inrow in
        let inside = impeder_inside d ok i (get_or (impeders_of d i) (get_or next i 0) 0) (Contains-get_or (impeders_of d i) (get_or next i 0) 0 inrow) in
        omega arith)
  ])

pub small_none : (d : Deps) → StaysSmallBelow d 1
small_none d k n lt c =
    elim (cases_eq k 0) [
      | inl e ↦
          let at : IsStateCount d 0 n = subst (λ o. IsStateCount d o n) e c in
          let none = count_none (λ (p : ℕ × ℕ). IsStatePair d 0 p.0 p.1) (λ p s. let (m, l, w) = s.0 in absurd (omega arith)) in
          omega (arith, count_unique (λ (p : ℕ × ℕ). IsStatePair d 0 p.0 p.1) n 0 at none)
      | inr ne ↦ absurd (omega arith)
    ]

none_seen : (d : Deps) (seen : List Bool) → seen ≡ replicate (length d.events) false → (i : ℕ) → get_or seen i false ≡ true → ⊥
none_seen d seen f i h =
    let g : get_or (replicate (length d.events) false) i false ≡ false = elim (cases_lt i (length d.events)) [
      | inl lt ↦ get_or-replicate (length d.events) i false false lt
      | inr past ↦ get_or_past (replicate (length d.events) false) i false (omega (arith, length-replicate {A = Bool} (length d.events) false))
    ] in
    let k : get_or seen i false ≡ false = ap (λ xs. get_or xs i false) f ∙ g in
    absurd cc

-- nothing has grown at first
pub grown_none :
    (d : Deps) (edges : List (List ℕ)) (seen : List Bool) (next : List ℕ) (waiting : List (List ℕ)) → edges ≡ replicate (length d.events) [] →
    seen ≡ replicate (length d.events) false →
    next ≡ replicate (length d.events) 0 → waiting ≡ replicate (length d.tasks) [] → IsGrown d 0 edges seen next waiting
grown_none d edges seen next waiting e f g w =
    record {
      sized = record {
        nodes = rw e (length-replicate {A = List ℕ} (length d.events) []);
        flags = rw f (length-replicate {A = Bool} (length d.events) false);
        places = rw g (length-replicate {A = ℕ} (length d.events) 0);
        tasks = rw w (length-replicate {A = List ℕ} (length d.tasks) []);
      };
      awaited = λ i. (λ h. absurd (none_seen d seen f i h), λ (m, lt, w). absurd (omega arith));
      fresh = λ i off. ap (λ xs. get_or xs i 0) g ∙ zeros (length d.events) i;
      passed = λ i s. absurd (none_seen d seen f i s);
      pairs = λ i j. (λ h. absurd (no_edge (length d.events) i j (subst (λ x. HasEdge x i j) e h)), λ (s, q). absurd (none_seen d seen f i s));
      waits = λ t i le. (λ h. absurd (no_edge (length d.tasks) t i (subst (λ x. HasEdge x t i) w h)), λ (s, inrow, at). absurd (none_seen d seen f i s));
    }
  where
    zeros : (n i : ℕ) → let zero : ℕ = 0 in get_or (replicate n zero) i 0 ≡ zero
    zeros n i = elim (cases_lt i n) [
      | inl lt ↦ get_or-replicate n i 0 0 lt
      | inr past ↦ get_or_past (replicate n 0) i 0 (omega (arith, length-replicate {A = ℕ} n 0))
    ]
