-- Bytes that are appended one after the other.
use Rattle.std.proofs.Common.{◌≡◌, ℕ, ◌+◌, ◌<◌, List, [], ◌∷◌, ◌++◌, get_or, length, take, ◌∙◌, ap, sym, arith, append_assoc, inl, inr, subst}
use Rattle.std.specs.List.{flat_map}
use Rattle.std.proofs.lemmas.Bool.{cases_eq}
use Rattle.std.proofs.lemmas.List.{flat_map_more, take_more, get_or_default}

pub five : (o t p n k ps a b c d e : List ℕ) → a ≡ o ++ t → b ≡ a ++ p → c ≡ b ++ n → d ≡ c ++ k → e ≡ d ++ ps → e ≡ o ++ (t ++ (p ++ (n ++ (k ++ ps))))
five o t p n k ps a b c d e one two three four last =
    last ∙ ap (λ (v : List ℕ). v ++ ps) (four ∙ ap (λ (v : List ℕ). v ++ k) (three ∙ ap (λ (v : List ℕ). v ++ n) (two ∙ ap (λ (v : List ℕ). v ++ p) one)))
    ∙ simp append_assoc

-- one thing more
pub one_more :
    {A : Type 0} (spell : A → List ℕ) (front before now : List ℕ) (xs : List A) (i : ℕ) (x : A) → i < length xs → x ≡ get_or xs i x →
    before ≡ front ++ flat_map spell (take i xs) → now ≡ before ++ spell x → now ≡ front ++ flat_map spell (take (i + 1) xs)
one_more {A} spell front before now xs i x small is so_far more =
    more ∙ ap (λ (v : List ℕ). v ++ spell x) so_far
    ∙ flat_map_more spell front (take i xs) x
    ∙ ap (λ (v : List A). front ++ flat_map spell v) (ap (λ (v : A). take i xs ++ v ∷ []) is ∙ sym (take_more xs i x small))

-- what holds of each of the first and of the next holds of one more
pub each_more :
    {A : Type 0} (P : A → Type 0) (xs : List A) (i : ℕ) (x : A) → i < length xs → x ≡ get_or xs i x →
    ((k : ℕ) (d : A) → k < i → P (get_or xs k d)) → P x → (k : ℕ) (d : A) → k < i + 1 → P (get_or xs k d)
each_more P xs i x small is before here k d l =
    elim (cases_eq k i) [
      | inl same ↦ subst P (is ∙ get_or_default xs i x d small ∙ ap (λ v. get_or xs v d) (sym same)) here
      | inr other ↦ before k d (omega arith)
    ]
