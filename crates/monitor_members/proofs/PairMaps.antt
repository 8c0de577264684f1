-- The pairs of phasers after those of one of them have changed.
use Rattle.std.proofs.Common.{◌≡◌, ℕ, Bool, true, false, not, ◌&&◌, ◌||◌, Option, Result, Ok, Err, OnErr, List, [], refl, sym, ◌∙◌, ap, subst, inl, inr}
use Rattle.std.specs.Prelude.{◌==◌, bytes_eq, cond}
use Rattle.std.specs.Global.{Vec}
use Rattle.std.specs.BTreeSet.{BTreeSet}
use Rattle.std.specs.Cmp.Lexicographic.{nat_list_eq_equiv}
use Rattle.std.specs.HashMap.{HashMap, UpdatesBy}
use Rattle.std.specs.Map.{lookup, IsKeyTest, AreApart, KeepsOthers}
use Rattle.std.proofs.lemmas.Bool.{cases_Bool, cond-true, cond-false}
use Rattle.std.proofs.lemmas.Slice.Eq.{bytes_eq-Decides}
use Rattle.monitor_members.specs.Noted.{has_pair, is_here, pairs_at, pairs_of}

module _ {K : Type 0} (eq : K → K → Bool) (test : K → Bool) where
  other_entries : {X : Type 0} (old new : List (K × X)) → KeepsOthers eq test old new → (other : K → Bool) → IsKeyTest eq other → AreApart test other → lookup other new ≡ lookup other old
  unfolding KeepsOthers
  other_entries old new kept = kept

apart : (bs cs ks : List ℕ) → bytes_eq bs cs ≡ false → bytes_eq bs ks ≡ true → bytes_eq cs ks ≡ false
apart bs cs ks n y = nat_list_eq_equiv.symm cs ks ∙ sym (nat_list_eq_equiv.congr bs ks cs y) ∙ n

module _ {S : Type 0} (p : List ℕ) (old new : HashMap (Vec ℕ) (BTreeSet (ℕ × ℕ)) S) (w : Option (BTreeSet (ℕ × ℕ))) (updates : UpdatesBy (λ x y. bytes_eq x.items y.items) (λ k. bytes_eq p k.items) old new w) where
  pub pairs_after : (q : List ℕ) → pairs_at new q ≡ cond (bytes_eq p q) (pairs_of w) (pairs_at old q)
  pairs_after q = elim (cases_Bool (bytes_eq p q)) [
    | inl here ↦
        subst (λ l. pairs_at new l ≡ pairs_of w) ((bytes_eq-Decides p q).0 here) (ap pairs_of updates.1) ∙ sym (cond-true (bytes_eq p q) (pairs_of w) (pairs_at old q) here)
    | inr other ↦
        ap pairs_of (other_entries _ _ _ _ updates.3 _ (λ x y. nat_list_eq_equiv.congr q x.items y.items) (λ k. apart p q k.items other))
        ∙ sym (cond-false (bytes_eq p q) (pairs_of w) (pairs_at old q) other)
  ]

  -- one more, where the pairs of p have one more
  pub noted_after : (m k : ℕ) → ((n j : ℕ) → has_pair (pairs_of w) n j ≡ (has_pair (pairs_at old p) n j || (m == n && k == j))) →
      (q : List ℕ) (n j : ℕ) → has_pair (pairs_at new q) n j ≡ (has_pair (pairs_at old q) n j || is_here p m k q n j)
  noted_after m k more q n j = ap (λ l. has_pair l n j) (pairs_after q) ∙ elim (cases_Bool (bytes_eq p q)) [
    | inl here ↦
        ap (λ l. has_pair l n j) (cond-true (bytes_eq p q) (pairs_of w) (pairs_at old q) here) ∙ more n j
        ∙ ap (λ l. has_pair (pairs_at old l) n j || (m == n && k == j)) ((bytes_eq-Decides p q).0 here)
        ∙ ap (λ b. has_pair (pairs_at old q) n j || (b && (m == n && k == j))) (sym here)
    | inr other ↦
        ap (λ l. has_pair l n j) (cond-false (bytes_eq p q) (pairs_of w) (pairs_at old q) other) ∙ sym (or_off (has_pair (pairs_at old q) n j))
        ∙ ap (λ b. has_pair (pairs_at old q) n j || (b && (m == n && k == j))) (sym other)
  ]
    where
      or_off : (b : Bool) → (b || false) ≡ b
      or_off true = refl
      or_off false = refl

  -- one less, where the pairs of p have one less
  pub taken_after : (m k : ℕ) → ((n j : ℕ) → has_pair (pairs_of w) n j ≡ (has_pair (pairs_at old p) n j && not (m == n && k == j))) →
      (q : List ℕ) (n j : ℕ) → has_pair (pairs_at new q) n j ≡ (has_pair (pairs_at old q) n j && not (is_here p m k q n j))
  taken_after m k less q n j = ap (λ l. has_pair l n j) (pairs_after q) ∙ elim (cases_Bool (bytes_eq p q)) [
    | inl here ↦
        ap (λ l. has_pair l n j) (cond-true (bytes_eq p q) (pairs_of w) (pairs_at old q) here) ∙ less n j
        ∙ ap (λ l. has_pair (pairs_at old l) n j && not (m == n && k == j)) ((bytes_eq-Decides p q).0 here)
        ∙ ap (λ b. has_pair (pairs_at old q) n j && not (b && (m == n && k == j))) (sym here)
    | inr other ↦
        ap (λ l. has_pair l n j) (cond-false (bytes_eq p q) (pairs_of w) (pairs_at old q) other) ∙ sym (and_on (has_pair (pairs_at old q) n j))
        ∙ ap (λ b. has_pair (pairs_at old q) n j && not (b && (m == n && k == j))) (sym other)
  ]
    where
      and_on : (b : Bool) → (b && true) ≡ b
      and_on true = refl
      and_on false = refl

  -- the same, where the pairs of p are the same
  pub same_after : ((n j : ℕ) → has_pair (pairs_of w) n j ≡ has_pair (pairs_at old p) n j) → (q : List ℕ) (n j : ℕ) → has_pair (pairs_at new q) n j ≡ has_pair (pairs_at old q) n j
  same_after same q n j = ap (λ l. has_pair l n j) (pairs_after q) ∙ elim (cases_Bool (bytes_eq p q)) [
    | inl here ↦
        ap (λ l. has_pair l n j) (cond-true (bytes_eq p q) (pairs_of w) (pairs_at old q) here) ∙ same n j
        ∙ ap (λ l. has_pair (pairs_at old l) n j) ((bytes_eq-Decides p q).0 here)
    | inr other ↦ ap (λ l. has_pair l n j) (cond-false (bytes_eq p q) (pairs_of w) (pairs_at old q) other)
  ]

-- nobody was noted, and nobody is taken out
pub none_there : {S : Type 0} (p : List ℕ) (old : HashMap (Vec ℕ) (BTreeSet (ℕ × ℕ)) S) → pairs_at old p ≡ [] → (m k : ℕ) (q : List ℕ) (n j : ℕ) → has_pair (pairs_at old q) n j ≡ (has_pair (pairs_at old q) n j && not (is_here p m k q n j))
none_there p old none m k q n j = elim (cases_Bool (bytes_eq p q)) [
  | inl here ↦
      (let e : has_pair (pairs_at old q) n j ≡ false = ap (λ l. has_pair (pairs_at old l) n j) (sym ((bytes_eq-Decides p q).0 here)) ∙ ap (λ l. has_pair l n j) none in
      e ∙ sym (ap (λ b. b && not (is_here p m k q n j)) e))
  | inr other ↦ sym (and_on (has_pair (pairs_at old q) n j)) ∙ ap (λ b. has_pair (pairs_at old q) n j && not (b && (m == n && k == j))) (sym other)
]
  where
    and_on : (b : Bool) → (b && true) ≡ b
    and_on true = refl
    and_on false = refl

-- what holds anyway holds of a failure
pub on_err : {A E : Type 0} (r : Result A E) (X : Type 0) → X → OnErr r X
on_err (Ok a) X holds = tt
on_err (Err e) X holds = holds
