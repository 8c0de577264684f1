-- What is true of each element of a list and each later one; and the elements of lists that were filtered.
use Rattle.std.proofs.Common.{◌≡◌, suc, Bool, true, List, [], ◌∷◌, ◌++◌, subst, ap, ◌∙◌, inl, inr, arith, get_or}
use Rattle.std.specs.Prelude.{Contains, ◌↔◌, All, AllPairs, filter}
use Rattle.std.proofs.lemmas.Bool.{cases_Bool}
use Rattle.std.proofs.lemmas.List.Elements.{All-append, All-contains, All-contains_itself, All-filter, filter_passes, Contains-get_or}
use Rattle.std.proofs.lemmas.List.Kept.{AllPairs-cons}
use Rattle.armus_base.proofs.Elements.{Contains-head, Contains-tail, Contains-cons_cases}

module _ {X : Type 0} (R : X → X → Type 0) where
  AllPairs-head : (x : X) (xs : List X) → AllPairs R (x ∷ xs) → All (R x) xs
  AllPairs-head x xs all k d lt = all 0 (suc k) d (omega arith) (omega arith)

  AllPairs-tail : (x : X) (xs : List X) → AllPairs R (x ∷ xs) → AllPairs R xs
  AllPairs-tail x xs all i j d l lt = all (suc i) (suc j) d (omega arith) (omega arith)

  -- each element of two lists, one after the other
  pub AllPairs-append : (xs ys : List X) → AllPairs R xs → AllPairs R ys → ((x y : X) → Contains xs x → Contains ys y → R x y) → AllPairs R (xs ++ ys)
  AllPairs-append [] ys left right across = right
  AllPairs-append (x ∷ xs) ys left right across =
      AllPairs-cons R x (xs ++ ys) (
      All-append (R x) xs ys (AllPairs-head x xs left) (λ k d lt. across x (get_or ys k d) (Contains-head x xs) (Contains-get_or ys k d lt))) (
      AllPairs-append xs ys (AllPairs-tail x xs left) right (λ y z m n. across y z (Contains-tail x xs y m) n))

module _ {X : Type 0} (p : X → Bool) where
  filter_has : (xs : List X) (u : X) → Contains xs u → p u ≡ true → Contains (filter p xs) u
  filter_has [] u (k, lt, e) on = absurd (omega arith)
  filter_has (x ∷ xs) u m on =
      elim (Contains-cons_cases x xs u m) [
        | inl e ↦
            let here : p x ≡ true = ap p e ∙ on in
            rw here (subst (λ z. Contains (x ∷ filter p xs) z) e (Contains-head x (filter p xs)))
        | inr l ↦
            let rest = filter_has xs u l on in
            elim (cases_Bool (p x)) [ inl true_x ↦ rw true_x (Contains-tail x (filter p xs) u rest) | inr false_x ↦ rw false_x rest ]
      ]

  -- a filter keeps just what passes
  pub filter_members : (xs : List X) (u : X) → Contains (filter p xs) u ↔ (Contains xs u × (p u ≡ true))
  filter_members xs u = (
    λ m. (
      All-contains (Contains xs) (filter p xs) u (All-filter p (Contains xs) xs (All-contains_itself xs)) m,
      All-contains (λ x. p x ≡ true) (filter p xs) u (filter_passes p xs) m,
    ),
    λ (m, on). filter_has xs u m on,
  )
