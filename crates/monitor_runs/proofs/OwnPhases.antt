-- The phases of a task after a line of its own, exactly.
use Rattle.std.proofs.Common.{◌≡◌, ℕ, ◌+◌, Bool, true, false, not, Some, None, List, [], ◌∷◌, ◌++◌, refl, sym, ◌∙◌, ap, ◌⊎◌, inl, inr}
use Rattle.std.specs.Prelude.{bytes_eq, filter, map, if◌then◌else◌}
use Rattle.std.specs.Map.{lookup}
use Rattle.std.proofs.lemmas.Bool.{cases_Bool, cond-true, cond-false}
use Rattle.std.proofs.lemmas.Slice.Eq.{bytes_eq-Decides}
use Rattle.armus_base.specs.States.{next_phase}
use Rattle.monitor_laws.proofs.Phases.{risen}

here : (p : List ℕ) (m : List ℕ × ℕ) (l : List (List ℕ × ℕ)) → bytes_eq p m.0 ≡ true → lookup (bytes_eq p) (m ∷ l) ≡ Some m.1
here p m l on = cond-true (bytes_eq p m.0) (Some m.1) (lookup (bytes_eq p) l) on

later : (p : List ℕ) (m : List ℕ × ℕ) (l : List (List ℕ × ℕ)) → bytes_eq p m.0 ≡ false → lookup (bytes_eq p) (m ∷ l) ≡ lookup (bytes_eq p) l
later p m l off = cond-false (bytes_eq p m.0) (Some m.1) (lookup (bytes_eq p) l) off

-- with one more membership behind
pub joined_same : (p : List ℕ) (n : ℕ) (l : List (List ℕ × ℕ)) → lookup (bytes_eq p) l ≡ None → lookup (bytes_eq p) (l ++ (p, n) ∷ []) ≡ Some n
joined_same p n [] none = here p (p, n) [] ((bytes_eq-Decides p p).1 refl)
joined_same p n (m ∷ l) none = by_test (joined_same p n l) (cases_Bool (bytes_eq p m.0))
  where
    by_test : (lookup (bytes_eq p) l ≡ None → lookup (bytes_eq p) (l ++ (p, n) ∷ []) ≡ Some n) → ((bytes_eq p m.0 ≡ true) ⊎ (bytes_eq p m.0 ≡ false)) → lookup (bytes_eq p) ((m ∷ l) ++ (p, n) ∷ []) ≡ Some n
    by_test rest (inl on) = absurd (let e = sym (here p m l on) ∙ none in cc)
    by_test rest (inr off) = later p m (l ++ (p, n) ∷ []) off ∙ rest (sym (later p m l off) ∙ none)

pub joined_other : (q p : List ℕ) (n : ℕ) (l : List (List ℕ × ℕ)) → bytes_eq q p ≡ false → lookup (bytes_eq q) (l ++ (p, n) ∷ []) ≡ lookup (bytes_eq q) l
joined_other q p n [] other = later q (p, n) [] other
joined_other q p n (m ∷ l) other = by_test (joined_other q p n l other) (cases_Bool (bytes_eq q m.0))
  where
    by_test : lookup (bytes_eq q) (l ++ (p, n) ∷ []) ≡ lookup (bytes_eq q) l → ((bytes_eq q m.0 ≡ true) ⊎ (bytes_eq q m.0 ≡ false)) → lookup (bytes_eq q) ((m ∷ l) ++ (p, n) ∷ []) ≡ lookup (bytes_eq q) (m ∷ l)
    by_test rest (inl on) = here q m (l ++ (p, n) ∷ []) on ∙ sym (here q m l on)
    by_test rest (inr off) = later q m (l ++ (p, n) ∷ []) off ∙ rest ∙ sym (later q m l off)

-- with one phase that has risen
pub risen_name : (p : List ℕ) (m : List ℕ × ℕ) → (risen p m).0 ≡ m.0
risen_name p m = elim (cases_Bool (bytes_eq p m.0)) [
  | inl on ↦ ap (λ (x : List ℕ × ℕ). x.0) (cond-true (bytes_eq p m.0) (m.0, m.1 + 1) m on)
  | inr off ↦ ap (λ (x : List ℕ × ℕ). x.0) (cond-false (bytes_eq p m.0) (m.0, m.1 + 1) m off)
]

pub arrived_same : (p : List ℕ) (l : List (List ℕ × ℕ)) → lookup (bytes_eq p) (map (risen p) l) ≡ next_phase (lookup (bytes_eq p) l)
arrived_same p [] = refl
arrived_same p (m ∷ l) = by_test (arrived_same p l) (cases_Bool (bytes_eq p m.0))
  where
    by_test : lookup (bytes_eq p) (map (risen p) l) ≡ next_phase (lookup (bytes_eq p) l) → ((bytes_eq p m.0 ≡ true) ⊎ (bytes_eq p m.0 ≡ false)) → lookup (bytes_eq p) (map (risen p) (m ∷ l)) ≡ next_phase (lookup (bytes_eq p) (m ∷ l))
    by_test rest (inl on) =
        here p (risen p m) (map (risen p) l) (ap (bytes_eq p) (risen_name p m) ∙ on)
        ∙ ap (λ (x : List ℕ × ℕ). Some x.1) (cond-true (bytes_eq p m.0) (m.0, m.1 + 1) m on)
        ∙ ap next_phase (sym (here p m l on))
    by_test rest (inr off) =
        later p (risen p m) (map (risen p) l) (ap (bytes_eq p) (risen_name p m) ∙ off) ∙ rest ∙ ap next_phase (sym (later p m l off))

pub arrived_other : (q p : List ℕ) (l : List (List ℕ × ℕ)) → bytes_eq q p ≡ false → lookup (bytes_eq q) (map (risen p) l) ≡ lookup (bytes_eq q) l
arrived_other q p [] other = refl
arrived_other q p (m ∷ l) other = by_test (arrived_other q p l other) (cases_Bool (bytes_eq q m.0))
  where
    by_test : lookup (bytes_eq q) (map (risen p) l) ≡ lookup (bytes_eq q) l → ((bytes_eq q m.0 ≡ true) ⊎ (bytes_eq q m.0 ≡ false)) → lookup (bytes_eq q) (map (risen p) (m ∷ l)) ≡ lookup (bytes_eq q) (m ∷ l)
    by_test rest (inl on) =
        let same : risen p m ≡ m = (elim (cases_Bool (bytes_eq p m.0)) [
          | inl too ↦ absurd (let a = (bytes_eq-Decides q m.0).0 on in let b = (bytes_eq-Decides p m.0).0 too in let e : q ≡ p = a ∙ sym b in let d = (bytes_eq-Decides q p).1 e in cc)
          | inr apart ↦ cond-false (bytes_eq p m.0) (m.0, m.1 + 1) m apart
        ]) in
        here q (risen p m) (map (risen p) l) (ap (bytes_eq q) (risen_name p m) ∙ on)
        ∙ ap (λ (x : List ℕ × ℕ). Some x.1) same
        ∙ sym (here q m l on)
    by_test rest (inr off) =
        later q (risen p m) (map (risen p) l) (ap (bytes_eq q) (risen_name p m) ∙ off) ∙ rest ∙ sym (later q m l off)

-- without one phaser
abbrev is_else : List ℕ → (List ℕ × ℕ) → Bool
is_else p m = not (bytes_eq p m.0)

pub left_same : (p : List ℕ) (l : List (List ℕ × ℕ)) → lookup (bytes_eq p) (filter (is_else p) l) ≡ None
left_same p [] = refl
left_same p (m ∷ l) = by_test (left_same p l) (cases_Bool (bytes_eq p m.0))
  where
    by_test : lookup (bytes_eq p) (filter (is_else p) l) ≡ None → ((bytes_eq p m.0 ≡ true) ⊎ (bytes_eq p m.0 ≡ false)) → lookup (bytes_eq p) (filter (is_else p) (m ∷ l)) ≡ None
    by_test rest (inl on) = ap (λ b. lookup (bytes_eq p) (if not b then m ∷ filter (is_else p) l else filter (is_else p) l)) on ∙ rest
    by_test rest (inr off) = ap (λ b. lookup (bytes_eq p) (if not b then m ∷ filter (is_else p) l else filter (is_else p) l)) off ∙ later p m (filter (is_else p) l) off ∙ rest

pub left_other : (q p : List ℕ) (l : List (List ℕ × ℕ)) → bytes_eq q p ≡ false → lookup (bytes_eq q) (filter (is_else p) l) ≡ lookup (bytes_eq q) l
left_other q p [] other = refl
left_other q p (m ∷ l) other = by_test (left_other q p l other) (cases_Bool (bytes_eq p m.0)) (cases_Bool (bytes_eq q m.0))
  where
    by_test :
        lookup (bytes_eq q) (filter (is_else p) l) ≡ lookup (bytes_eq q) l → ((bytes_eq p m.0 ≡ true) ⊎ (bytes_eq p m.0 ≡ false)) → ((bytes_eq q m.0 ≡ true) ⊎ (bytes_eq q m.0 ≡ false)) →
        lookup (bytes_eq q) (filter (is_else p) (m ∷ l)) ≡ lookup (bytes_eq q) (m ∷ l)
    by_test rest (inl same) (inl on) =
        absurd (let a = (bytes_eq-Decides q m.0).0 on in let b = (bytes_eq-Decides p m.0).0 same in let e : q ≡ p = a ∙ sym b in let d = (bytes_eq-Decides q p).1 e in cc)
    by_test rest (inl same) (inr off) =
        ap (λ b. lookup (bytes_eq q) (if not b then m ∷ filter (is_else p) l else filter (is_else p) l)) same ∙ rest ∙ sym (later q m l off)
    by_test rest (inr apart) (inl on) =
        ap (λ b. lookup (bytes_eq q) (if not b then m ∷ filter (is_else p) l else filter (is_else p) l)) apart ∙ here q m (filter (is_else p) l) on ∙ sym (here q m l on)
    by_test rest (inr apart) (inr off) =
        ap (λ b. lookup (bytes_eq q) (if not b then m ∷ filter (is_else p) l else filter (is_else p) l)) apart ∙ later q m (filter (is_else p) l) off ∙ rest ∙ sym (later q m l off)
