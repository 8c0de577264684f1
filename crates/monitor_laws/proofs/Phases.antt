-- The phases of a member after a line of its own.
use Rattle.std.proofs.Common.{◌≡◌, ℕ, ◌<◌, ◌≤◌, ◌+◌, true, false, not, Some, None, Option, List, [], ◌∷◌, ◌++◌, refl, sym, ◌∙◌, ap, inl, inr, ◌⊎◌, arith}
use Rattle.std.specs.Prelude.{bytes_eq, filter, map, if◌then◌else◌}
use Rattle.std.specs.Map.{lookup}
use Rattle.std.proofs.lemmas.Bool.{cases_Bool, cond-true, cond-false, lt-ltb, ltb-true, ltb-false}
use Rattle.std.proofs.lemmas.Slice.Eq.{bytes_eq-Decides}
use Rattle.monitor_laws.specs.Stuck.{is_phase_below}

-- a phase below is one
pub below_is : (o : Option ℕ) (n : ℕ) → is_phase_below o n ≡ true → (k : ℕ) × (o ≡ Some k) × (k < n)
below_is None n below = absurd (cc)
below_is (Some k) n below = (k, refl, ltb-true k n below)

pub below_from : (o : Option ℕ) (k n : ℕ) → o ≡ Some k → k < n → is_phase_below o n ≡ true
below_from o k n is lower = ap (λ x. is_phase_below x n) is ∙ lt-ltb k n lower

pub not_below : (o : Option ℕ) (k n : ℕ) → o ≡ Some k → is_phase_below o n ≡ false → n ≤ k
not_below o k n is not_lower = ltb-false k n (sym (ap (λ x. is_phase_below x n) is) ∙ not_lower)

-- the first of a list, where it has the name, and else the rest
found_here : (p : List ℕ) (m : List ℕ × ℕ) (l : List (List ℕ × ℕ)) → bytes_eq p m.0 ≡ true → lookup (bytes_eq p) (m ∷ l) ≡ Some m.1
found_here p m l here = cond-true (bytes_eq p m.0) (Some m.1) (lookup (bytes_eq p) l) here

found_later : (p : List ℕ) (m : List ℕ × ℕ) (l : List (List ℕ × ℕ)) → bytes_eq p m.0 ≡ false → lookup (bytes_eq p) (m ∷ l) ≡ lookup (bytes_eq p) l
found_later p m l other = cond-false (bytes_eq p m.0) (Some m.1) (lookup (bytes_eq p) l) other

-- with one more behind
pub after_join : (l : List (List ℕ × ℕ)) (p q : List ℕ) (k n : ℕ) → lookup (bytes_eq p) (l ++ (q, n) ∷ []) ≡ Some k → (lookup (bytes_eq p) l ≡ Some k) ⊎ ((p ≡ q) × (n ≡ k))
after_join [] p q k n e = elim (cases_Bool (bytes_eq p q)) [
  | inl here ↦ inr ((bytes_eq-Decides p q).0 here, let f = sym (found_here p (q, n) [] here) ∙ e in cc)
  | inr other ↦ absurd (let f = sym (found_later p (q, n) [] other) ∙ e in cc)
]
after_join (m ∷ l) p q k n e = by_test (after_join l p q k n) (cases_Bool (bytes_eq p m.0))
  where
    by_test :
        (lookup (bytes_eq p) (l ++ (q, n) ∷ []) ≡ Some k → (lookup (bytes_eq p) l ≡ Some k) ⊎ ((p ≡ q) × (n ≡ k))) →
        ((bytes_eq p m.0 ≡ true) ⊎ (bytes_eq p m.0 ≡ false)) → (lookup (bytes_eq p) (m ∷ l) ≡ Some k) ⊎ ((p ≡ q) × (n ≡ k))
    by_test rest (inl here) = inl (found_here p m l here ∙ sym (found_here p m (l ++ (q, n) ∷ []) here) ∙ e)
    by_test rest (inr other) = elim (rest (sym (found_later p m (l ++ (q, n) ∷ []) other) ∙ e)) [
      | inl old ↦ inl (found_later p m l other ∙ old)
      | inr new ↦ inr new
    ]

-- a phase that rises by one on one phaser
abbrev pub risen : List ℕ → (List ℕ × ℕ) → (List ℕ × ℕ)
risen q m = if bytes_eq q m.0 then (m.0, m.1 + 1) else m

risen_is : (q : List ℕ) (m : List ℕ × ℕ) → ((risen q m).0 ≡ m.0) × (m.1 ≤ (risen q m).1)
risen_is q m = by_test (cases_Bool (bytes_eq q m.0))
  where
    by_test : ((bytes_eq q m.0 ≡ true) ⊎ (bytes_eq q m.0 ≡ false)) → ((risen q m).0 ≡ m.0) × (m.1 ≤ (risen q m).1)
    by_test (inl here) = let e = cond-true (bytes_eq q m.0) (m.0, m.1 + 1) m here in (ap (λ (x : List ℕ × ℕ). x.0) e, let f = ap (λ (x : List ℕ × ℕ). x.1) e in omega arith)
    by_test (inr other) = let e = cond-false (bytes_eq q m.0) (m.0, m.1 + 1) m other in (ap (λ (x : List ℕ × ℕ). x.0) e, let f = ap (λ (x : List ℕ × ℕ). x.1) e in omega arith)

pub after_arrive : (l : List (List ℕ × ℕ)) (p q : List ℕ) (k : ℕ) → lookup (bytes_eq p) (map (risen q) l) ≡ Some k → (m : ℕ) × (lookup (bytes_eq p) l ≡ Some m) × (m ≤ k)
after_arrive [] p q k e = absurd (cc)
after_arrive (m ∷ l) p q k e = by_test (after_arrive l p q k) (cases_Bool (bytes_eq p m.0))
  where
    name : (risen q m).0 ≡ m.0
    name = (risen_is q m).0

    by_test :
        (lookup (bytes_eq p) (map (risen q) l) ≡ Some k → (j : ℕ) × (lookup (bytes_eq p) l ≡ Some j) × (j ≤ k)) →
        ((bytes_eq p m.0 ≡ true) ⊎ (bytes_eq p m.0 ≡ false)) → (j : ℕ) × (lookup (bytes_eq p) (m ∷ l) ≡ Some j) × (j ≤ k)
    by_test rest (inl here) = (
      m.1,
      found_here p m l here,
      let f : Some (risen q m).1 ≡ Some k = sym (found_here p (risen q m) (map (risen q) l) (ap (bytes_eq p) name ∙ here)) ∙ e in
          let g : (risen q m).1 ≡ k = cc in let r = (risen_is q m).1 in omega arith,
    )
    by_test rest (inr other) =
        let r = rest (sym (found_later p (risen q m) (map (risen q) l) (ap (bytes_eq p) name ∙ other)) ∙ e) in
        (r.0, found_later p m l other ∙ r.1, r.2)

-- without a phaser
none_left : (l : List (List ℕ × ℕ)) (p : List ℕ) (k : ℕ) → lookup (bytes_eq p) (filter (λ m. not (bytes_eq p m.0)) l) ≡ Some k → ⊥
none_left [] p k e = absurd (cc)
none_left (m ∷ l) p k e = by_test (none_left l p k) (cases_Bool (bytes_eq p m.0))
  where
    by_test : (lookup (bytes_eq p) (filter (λ m. not (bytes_eq p m.0)) l) ≡ Some k → ⊥) → ((bytes_eq p m.0 ≡ true) ⊎ (bytes_eq p m.0 ≡ false)) → ⊥
    by_test rest (inl here) = rest (sym (ap (λ b. lookup (bytes_eq p) (if not b then m ∷ filter (λ m. not (bytes_eq p m.0)) l else filter (λ m. not (bytes_eq p m.0)) l)) here) ∙ e)
    by_test rest (inr other) =
        rest (sym (found_later p m (filter (λ m. not (bytes_eq p m.0)) l) other)
        ∙ sym (ap (λ b. lookup (bytes_eq p) (if not b then m ∷ filter (λ m. not (bytes_eq p m.0)) l else filter (λ m. not (bytes_eq p m.0)) l)) other) ∙ e)

pub after_leave : (l : List (List ℕ × ℕ)) (p q : List ℕ) (k : ℕ) → lookup (bytes_eq p) (filter (λ m. not (bytes_eq q m.0)) l) ≡ Some k → lookup (bytes_eq p) l ≡ Some k
after_leave [] p q k e = absurd (cc)
after_leave (m ∷ l) p q k e = by_test (after_leave l p q k) (cases_Bool (bytes_eq q m.0)) (cases_Bool (bytes_eq p m.0))
  where
    left : List (List ℕ × ℕ)
    left = filter (λ m. not (bytes_eq q m.0)) l

    by_test :
        (lookup (bytes_eq p) left ≡ Some k → lookup (bytes_eq p) l ≡ Some k) → ((bytes_eq q m.0 ≡ true) ⊎ (bytes_eq q m.0 ≡ false)) →
        ((bytes_eq p m.0 ≡ true) ⊎ (bytes_eq p m.0 ≡ false)) → lookup (bytes_eq p) (m ∷ l) ≡ Some k
    by_test rest (inl out) (inl here) =
        let same : q ≡ p = (bytes_eq-Decides q m.0).0 out ∙ sym ((bytes_eq-Decides p m.0).0 here) in
        absurd (none_left l p k (ap (λ x. lookup (bytes_eq p) (filter (λ m. not (bytes_eq x m.0)) l)) (sym same) ∙ sym (ap (λ b. lookup (bytes_eq p) (if not b then m ∷ left else left)) out) ∙ e))
    by_test rest (inl out) (inr other) = found_later p m l other ∙ rest (sym (ap (λ b. lookup (bytes_eq p) (if not b then m ∷ left else left)) out) ∙ e)
    by_test rest (inr stays) (inl here) =
        found_here p m l here ∙ sym (found_here p m left here) ∙ sym (ap (λ b. lookup (bytes_eq p) (if not b then m ∷ left else left)) stays) ∙ e
    by_test rest (inr stays) (inr other) =
        found_later p m l other ∙ rest (sym (found_later p m left other) ∙ sym (ap (λ b. lookup (bytes_eq p) (if not b then m ∷ left else left)) stays) ∙ e)
