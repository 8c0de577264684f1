-- A walk that goes on in one way only comes back in one way only.
use Rattle.std.proofs.Common.{◌≡◌, ℕ, zero, suc, ◌+◌, ◌-◌, ◌<◌, List, [], ◌∷◌, ◌++◌, length, sym, ap, ◌∙◌, subst, inl, inr, arith, get_or, drop, length-append}
use Rattle.std.proofs.lemmas.Bool.{cases_eq, cases_lt}
use Rattle.std.proofs.lemmas.List.{get_or_default, get_or-append-add, same_lists}
use Rattle.std.proofs.Math.Seq.{drop-append_seam}
use Rattle.armus_base.specs.Counts.{IsDistinct}
use Rattle.armus_base.specs.Relations.{IsWalk, IsWalkCycle}

-- distinct elements at two places
pub distinct_at : {X : Type 0} (xs : List X) → IsDistinct xs → (i j : ℕ) (d : X) → i < j → j < length xs → get_or xs i d ≡ get_or xs j d → ⊥
distinct_at [] h i j d lt in' e = omega arith
distinct_at (x ∷ xs) h i zero d lt in' e = omega arith
distinct_at (x ∷ xs) h zero (suc j) d lt in' e = h.0 (j, omega arith, get_or_default xs j x d (omega arith) ∙ sym e)
distinct_at (x ∷ xs) h (suc i) (suc j) d lt in' e = distinct_at xs h.1 i j d (omega arith) (omega arith) e

-- the same element at two places is at one place
pub one_place : {X : Type 0} (xs : List X) → IsDistinct xs → (i j : ℕ) (d : X) → i < length xs → j < length xs → get_or xs i d ≡ get_or xs j d → i ≡ j
one_place xs h i j d li lj e =
    elim (cases_eq i j) [
      | inl same ↦ same
      | inr other ↦ elim (cases_lt i j) [
        | inl less ↦ absurd (distinct_at xs h i j d less lj e)
        | inr more ↦ absurd (distinct_at xs h j i d (omega arith) li (sym e))
      ]
    ]

module _ {X : Type 0} (R : X → X → Type 0) (one : (a b c : X) → R a b → R a c → b ≡ c) (start : X) where
  -- two walks from one start agree
  same_at :
      (xs ys : List X) → IsWalk R xs → IsWalk R ys → ((d : X) → get_or xs 0 d ≡ start) → ((d : X) → get_or ys 0 d ≡ start) →
      (k : ℕ) (d : X) → k < length xs → k < length ys → get_or xs k d ≡ get_or ys k d
  same_at xs ys wx wy sx sy zero d lx ly = sx d ∙ sym (sy d)
  same_at xs ys wx wy sx sy (suc k) d lx ly =
      let e = same_at xs ys wx wy sx sy k d (omega arith) (omega arith) in
      let lx' : k + 1 < length xs = omega arith in
      let ly' : k + 1 < length ys = omega arith in
      let n : k + 1 ≡ suc k = omega arith in
      let f : get_or xs (k + 1) d ≡ get_or ys (k + 1) d =
      one (get_or ys k d) (get_or xs (k + 1) d) (get_or ys (k + 1) d) (subst (λ x. R x (get_or xs (k + 1) d)) e (wx k d lx')) (wy k d ly') in
      subst (λ m. get_or xs m d ≡ get_or ys m d) n f

  -- the first of the cycle, in the whole walk
  at_turn : (cycle : List X) (w : IsWalkCycle R start cycle) (d : X) → get_or (w.before ++ cycle) (length w.before) d ≡ get_or cycle 0 d
  at_turn cycle w d = ap (λ k. get_or (w.before ++ cycle) k d) (omega arith) ∙ get_or-append-add w.before cycle 0 d

  module _ (c1 c2 : List X) (w1 : IsWalkCycle R start c1) (w2 : IsWalkCycle R start c2) where
    -- no walk that comes back is longer than another
    pub not_longer : length (w1.before ++ c1) < length (w2.before ++ c2) → ⊥
    not_longer lt =
        let xs : List X = w1.before ++ c1 in
        let ys : List X = w2.before ++ c2 in
        let n1 = length-append w1.before c1 in
        let d : X = start in
        let last : length xs - 1 < length xs = omega (arith, n1, w1.some) in
        let e = same_at xs ys w1.steps w2.steps w1.starts w2.starts (length xs - 1) d last (omega arith) in
        let back : R (get_or ys (length xs - 1) d) (get_or c1 0 d) = subst (λ x. R x (get_or c1 0 d)) e (w1.back d) in
        let step : R (get_or ys (length xs - 1) d) (get_or ys (length xs - 1 + 1) d) = w2.steps (length xs - 1) d (omega arith) in
        let f : get_or c1 0 d ≡ get_or ys (length xs - 1 + 1) d = one _ _ _ back step in
        let turn : length w1.before < length xs = omega (arith, n1, w1.some) in
        let g : get_or ys (length w1.before) d ≡ get_or c1 0 d =
        sym (same_at xs ys w1.steps w2.steps w1.starts w2.starts (length w1.before) d turn (omega arith)) ∙ at_turn c1 w1 d in
        distinct_at ys w2.distinct (length w1.before) (length xs - 1 + 1) d (omega arith) (omega arith) (g ∙ f)

  pub one_cycle : (c1 c2 : List X) → IsWalkCycle R start c1 → IsWalkCycle R start c2 → c1 ≡ c2
  one_cycle c1 c2 w1 w2 =
      let xs : List X = w1.before ++ c1 in
      let ys : List X = w2.before ++ c2 in
      let n1 = length-append w1.before c1 in
      let n2 = length-append w2.before c2 in
      let sized : length xs ≡ length ys =
      elim (cases_lt (length xs) (length ys)) [
        | inl less ↦ absurd (not_longer c1 c2 w1 w2 less)
        | inr more ↦ elim (cases_lt (length ys) (length xs)) [ inl less ↦ absurd (not_longer c2 c1 w2 w1 less) | inr same ↦ omega arith ]
      ] in
      let same : xs ≡ ys = same_lists xs ys sized (λ k d lt. same_at xs ys w1.steps w2.steps w1.starts w2.starts k d lt (omega arith)) in
      let d : X = start in
      let last : get_or xs (length xs - 1) d ≡ get_or ys (length ys - 1) d = ap (λ zs. get_or zs (length zs - 1) d) same in
      let turn : get_or c1 0 d ≡ get_or c2 0 d = one _ _ _ (subst (λ x. R x (get_or c1 0 d)) last (w1.back d)) (w2.back d) in
      let place : length w1.before ≡ length w2.before =
      one_place ys w2.distinct (length w1.before) (length w2.before) d (omega (arith, n1, w1.some)) (omega (arith, n2, w2.some))
      (sym (ap (λ zs. get_or zs (length w1.before) d) same) ∙ at_turn c1 w1 d ∙ turn ∙ sym (at_turn c2 w2 d)) in
      sym (drop-append_seam w1.before c1) ∙ ap (λ k. drop k xs) place ∙ ap (λ zs. drop (length w2.before) zs) same ∙ drop-append_seam w2.before c2
