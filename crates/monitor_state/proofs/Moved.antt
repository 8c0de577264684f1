-- The phases of one that joins, arrives or leaves.
use Rattle.std.proofs.Common.{◌≡◌, ℕ, ◌+◌, Bool, true, false, not, ◌&&◌, ◌||◌, Option, Some, None, List, [], ◌∷◌, ◌++◌, refl, sym, ◌∙◌, ap, subst, inl, inr, arith}
use Rattle.std.specs.Prelude.{◌==◌, bytes_eq, cond, if◌then◌else◌}
use Rattle.std.specs.Map.{lookup}
use Rattle.std.specs.Cmp.Lexicographic.{nat_list_eq_equiv}
use Rattle.std.proofs.lemmas.Bool.{cases_Bool, cond-true, cond-false}
use Rattle.std.proofs.lemmas.Bool.Decides.{nat_tests}
use Rattle.std.proofs.lemmas.Map.Entries.{lookup-filter-keys}
use Rattle.std.proofs.lemmas.Slice.Eq.{bytes_eq-Decides}
use Rattle.monitor_state.specs.Indexes.{is_phase}
use Rattle.monitor_state.specs.inside.PhaserLists.{risen_on, without_phaser}
use Rattle.monitor_state.proofs.Noting.{and_on, or_off}

abbrev MemberList : Type 0
MemberList = List (List ℕ × ℕ)

same_as : (p q k : List ℕ) → bytes_eq q k ≡ true → bytes_eq p k ≡ bytes_eq p q
same_as p q k same = ap (bytes_eq p) (sym ((bytes_eq-Decides q k).0 same))

pub turned_names : (p q : List ℕ) → bytes_eq q p ≡ bytes_eq p q
turned_names p q = nat_list_eq_equiv.symm q p

-- one more membership
pub joined_phase : (ms : MemberList) (p : List ℕ) (n : ℕ) (q : List ℕ) (x : ℕ) → lookup (bytes_eq p) ms ≡ None →
    (is_phase (lookup (bytes_eq q) ms) x || (bytes_eq p q && n == x)) ≡ is_phase (lookup (bytes_eq q) (ms ++ (p, n) ∷ [])) x
joined_phase [] p n q x none = by_test (bytes_eq q p) (sym (turned_names p q))
  where
    by_test : (b : Bool) → bytes_eq p q ≡ b → (bytes_eq p q && n == x) ≡ is_phase (cond b (Some n) None) x
    by_test true e = ap (λ c. c && n == x) e
    by_test false e = ap (λ c. c && n == x) e
joined_phase (m ∷ ms) p n q x none = elim (cases_Bool (bytes_eq q m.0)) [
  | inl here ↦
      ap (λ o. is_phase o x || (bytes_eq p q && n == x)) (cond-true (bytes_eq q m.0) (Some m.1) (lookup (bytes_eq q) ms) here)
      ∙ ap (λ b. (m.1 == x) || (b && n == x)) (sym (same_as p q m.0 here) ∙ first_off (bytes_eq p m.0) none)
      ∙ or_off (m.1 == x)
      ∙ ap (λ o. is_phase o x) (sym (cond-true (bytes_eq q m.0) (Some m.1) (lookup (bytes_eq q) (ms ++ (p, n) ∷ [])) here))
  | inr other ↦
      ap (λ o. is_phase o x || (bytes_eq p q && n == x)) (cond-false (bytes_eq q m.0) (Some m.1) (lookup (bytes_eq q) ms) other)
      ∙ joined_phase ms p n q x (rest_none (bytes_eq p m.0) none)
      ∙ ap (λ o. is_phase o x) (sym (cond-false (bytes_eq q m.0) (Some m.1) (lookup (bytes_eq q) (ms ++ (p, n) ∷ [])) other))
]
  where
    first_off : (b : Bool) → cond b (Some m.1) (lookup (bytes_eq p) ms) ≡ None → b ≡ false
    first_off true e = absurd (cc)
    first_off false e = refl

    rest_none : (b : Bool) → cond b (Some m.1) (lookup (bytes_eq p) ms) ≡ None → lookup (bytes_eq p) ms ≡ None
    rest_none true e = absurd (cc)
    rest_none false e = e

-- the membership is taken back
pub joined_back : (ms : MemberList) (p : List ℕ) (n : ℕ) (q : List ℕ) (x : ℕ) → lookup (bytes_eq p) ms ≡ None →
    ((is_phase (lookup (bytes_eq q) ms) x || (bytes_eq p q && n == x)) && not (bytes_eq p q && n == x)) ≡ is_phase (lookup (bytes_eq q) ms) x
joined_back ms p n q x none = elim (cases_Bool (bytes_eq p q)) [
  | inl here ↦
      (let e : is_phase (lookup (bytes_eq q) ms) x ≡ false = subst (λ l. is_phase (lookup (bytes_eq l) ms) x ≡ false) ((bytes_eq-Decides p q).0 here) (ap (λ o. is_phase o x) none) in
      ap (λ b. (b || (bytes_eq p q && n == x)) && not (bytes_eq p q && n == x)) e ∙ never (bytes_eq p q && n == x) ∙ sym e)
  | inr other ↦
      ap (λ b. (is_phase (lookup (bytes_eq q) ms) x || (b && n == x)) && not (b && n == x)) other ∙ and_on (is_phase (lookup (bytes_eq q) ms) x || false)
      ∙ or_off (is_phase (lookup (bytes_eq q) ms) x)
]
  where
    never : (b : Bool) → (b && not b) ≡ false
    never true = refl
    never false = refl

-- without the membership of a phaser
pub left_phase : (ms : MemberList) (p q : List ℕ) → lookup (bytes_eq q) (without_phaser p ms) ≡ cond (not (bytes_eq p q)) (lookup (bytes_eq q) ms) None
left_phase ms p q = lookup-filter-keys (bytes_eq q) (λ k. not (bytes_eq p k)) (not (bytes_eq p q)) (λ k here. ap not (same_as p q k here)) ms

pub left_is : (ms : MemberList) (p : List ℕ) (m : ℕ) (q : List ℕ) (x : ℕ) → lookup (bytes_eq p) ms ≡ Some m →
    (is_phase (lookup (bytes_eq q) ms) x && not (bytes_eq p q && m == x)) ≡ is_phase (lookup (bytes_eq q) (without_phaser p ms)) x
left_is ms p m q x some = elim (cases_Bool (bytes_eq p q)) [
  | inl here ↦
      (let e : lookup (bytes_eq q) ms ≡ Some m = subst (λ l. lookup (bytes_eq l) ms ≡ Some m) ((bytes_eq-Decides p q).0 here) some in
      ap (λ o. is_phase o x && not (bytes_eq p q && m == x)) e ∙ ap (λ b. (m == x) && not (b && m == x)) here ∙ never (m == x)
      ∙ ap (λ o. is_phase o x) (sym (left_phase ms p q ∙ ap (λ b. cond (not b) (lookup (bytes_eq q) ms) None) here)))
  | inr other ↦
      ap (λ b. is_phase (lookup (bytes_eq q) ms) x && not (b && m == x)) other ∙ and_on (is_phase (lookup (bytes_eq q) ms) x)
      ∙ ap (λ o. is_phase o x) (sym (left_phase ms p q ∙ ap (λ b. cond (not b) (lookup (bytes_eq q) ms) None) other))
]
  where
    never : (b : Bool) → (b && not b) ≡ false
    never true = refl
    never false = refl

pub left_same : (ms : MemberList) (p q : List ℕ) (x : ℕ) → lookup (bytes_eq p) ms ≡ None → is_phase (lookup (bytes_eq q) ms) x ≡ is_phase (lookup (bytes_eq q) (without_phaser p ms)) x
left_same ms p q x none = elim (cases_Bool (bytes_eq p q)) [
  | inl here ↦
      (let e : lookup (bytes_eq q) ms ≡ None = subst (λ l. lookup (bytes_eq l) ms ≡ None) ((bytes_eq-Decides p q).0 here) none in
      ap (λ o. is_phase o x) (e ∙ sym (left_phase ms p q ∙ ap (λ b. cond (not b) (lookup (bytes_eq q) ms) None) here)))
  | inr other ↦ ap (λ o. is_phase o x) (sym (left_phase ms p q ∙ ap (λ b. cond (not b) (lookup (bytes_eq q) ms) None) other))
]

-- with one phase risen
abbrev one_more : Option ℕ → Option ℕ
one_more None = None
one_more (Some m) = Some (m + 1)

pub risen_phase : (ms : MemberList) (p q : List ℕ) → lookup (bytes_eq q) (risen_on p ms) ≡ (if bytes_eq p q then one_more (lookup (bytes_eq q) ms) else lookup (bytes_eq q) ms)
risen_phase [] p q = by_test None (bytes_eq p q)
  where
    by_test : (o : Option ℕ) (b : Bool) → o ≡ (if b then o else o)
    by_test o true = refl
    by_test o false = refl
risen_phase (m ∷ ms) p q = elim (cases_Bool (bytes_eq q m.0)) [
  | inl here ↦
      head here (bytes_eq p m.0) ∙ ap (λ b. if b then Some (m.1 + 1) else Some m.1) (same_as p q m.0 here) ∙ moved (bytes_eq p q)
      ∙ ap (λ o. if bytes_eq p q then one_more o else o) (sym (cond-true (bytes_eq q m.0) (Some m.1) (lookup (bytes_eq q) ms) here))
  | inr other ↦
      tail other (bytes_eq p m.0) ∙ risen_phase ms p q
      ∙ ap (λ o. if bytes_eq p q then one_more o else o) (sym (cond-false (bytes_eq q m.0) (Some m.1) (lookup (bytes_eq q) ms) other))
]
  where
    head : bytes_eq q m.0 ≡ true → (b : Bool) → lookup (bytes_eq q) ((if b then (m.0, m.1 + 1) else m) ∷ risen_on p ms) ≡ (if b then Some (m.1 + 1) else Some m.1)
    head here true = cond-true (bytes_eq q m.0) (Some (m.1 + 1)) (lookup (bytes_eq q) (risen_on p ms)) here
    head here false = cond-true (bytes_eq q m.0) (Some m.1) (lookup (bytes_eq q) (risen_on p ms)) here

    moved : (b : Bool) → (if b then Some (m.1 + 1) else Some m.1) ≡ (if b then one_more (Some m.1) else Some m.1)
    moved true = refl
    moved false = refl

    tail : bytes_eq q m.0 ≡ false → (b : Bool) → lookup (bytes_eq q) ((if b then (m.0, m.1 + 1) else m) ∷ risen_on p ms) ≡ lookup (bytes_eq q) (risen_on p ms)
    tail other true = cond-false (bytes_eq q m.0) (Some (m.1 + 1)) (lookup (bytes_eq q) (risen_on p ms)) other
    tail other false = cond-false (bytes_eq q m.0) (Some m.1) (lookup (bytes_eq q) (risen_on p ms)) other

next_only : (m x : ℕ) → (((m == x) || (m + 1 == x)) && not (m == x)) ≡ (m + 1 == x)
next_only m x = grind (arith, nat_tests)

pub risen_is : (ms : MemberList) (p : List ℕ) (m : ℕ) (q : List ℕ) (x : ℕ) → lookup (bytes_eq p) ms ≡ Some m →
    ((is_phase (lookup (bytes_eq q) ms) x || (bytes_eq p q && m + 1 == x)) && not (bytes_eq p q && m == x)) ≡ is_phase (lookup (bytes_eq q) (risen_on p ms)) x
risen_is ms p m q x some = elim (cases_Bool (bytes_eq p q)) [
  | inl here ↦
      (let e : lookup (bytes_eq q) ms ≡ Some m = subst (λ l. lookup (bytes_eq l) ms ≡ Some m) ((bytes_eq-Decides p q).0 here) some in
      ap (λ o. (is_phase o x || (bytes_eq p q && m + 1 == x)) && not (bytes_eq p q && m == x)) e
      ∙ ap (λ b. ((m == x) || (b && m + 1 == x)) && not (b && m == x)) here ∙ next_only m x
      ∙ ap (λ o. is_phase o x) (sym (risen_phase ms p q ∙ ap (λ b. if b then one_more (lookup (bytes_eq q) ms) else lookup (bytes_eq q) ms) here ∙ ap one_more e)))
  | inr other ↦
      ap (λ b. (is_phase (lookup (bytes_eq q) ms) x || (b && m + 1 == x)) && not (b && m == x)) other ∙ and_on (is_phase (lookup (bytes_eq q) ms) x || false) ∙ or_off (is_phase (lookup (bytes_eq q) ms) x)
      ∙ ap (λ o. is_phase o x) (sym (risen_phase ms p q ∙ ap (λ b. if b then one_more (lookup (bytes_eq q) ms) else lookup (bytes_eq q) ms) other))
]

pub risen_same : (ms : MemberList) (p q : List ℕ) (x : ℕ) → lookup (bytes_eq p) ms ≡ None → is_phase (lookup (bytes_eq q) ms) x ≡ is_phase (lookup (bytes_eq q) (risen_on p ms)) x
risen_same ms p q x none = elim (cases_Bool (bytes_eq p q)) [
  | inl here ↦
      (let e : lookup (bytes_eq q) ms ≡ None = subst (λ l. lookup (bytes_eq l) ms ≡ None) ((bytes_eq-Decides p q).0 here) none in
      ap (λ o. is_phase o x) (e ∙ sym (risen_phase ms p q ∙ ap (λ b. if b then one_more (lookup (bytes_eq q) ms) else lookup (bytes_eq q) ms) here ∙ ap one_more e)))
  | inr other ↦ ap (λ o. is_phase o x) (sym (risen_phase ms p q ∙ ap (λ b. if b then one_more (lookup (bytes_eq q) ms) else lookup (bytes_eq q) ms) other))
]
