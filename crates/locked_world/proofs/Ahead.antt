-- The last item of a list.
use Rattle.std.proofs.Common.{◌≡◌, ◌⊎◌, List, [], ◌∷◌, ◌++◌, ◌∙◌, ap, refl, inl, inr}

-- what stands ahead of the last item: all that is before t, where t is the last; else t too
pub ahead_of_last :
    {A : Type 0} (xs before rest : List A) (x t : A) → xs ++ x ∷ [] ≡ before ++ t ∷ rest → (xs ≡ before × x ≡ t) ⊎ ((init : List A) × (xs ≡ before ++ t ∷ init))
ahead_of_last [] [] rest x t e = inl (refl, cc)
ahead_of_last (y ∷ ys) [] rest x t e = inr (ys, (let same : y ≡ t = cc in ap (λ z. z ∷ ys) same))
ahead_of_last [] (b ∷ []) rest x t e = absurd (cc)
ahead_of_last [] (b ∷ (c ∷ bs)) rest x t e = absurd (cc)
ahead_of_last (y ∷ ys) (b ∷ bs) rest x t e =
    let head : y ≡ b = cc in
    let tail : ys ++ x ∷ [] ≡ bs ++ t ∷ rest = cc in
    elim (ahead_of_last ys bs rest x t tail) [
      | inl here ↦ inl (ap (λ z. z ∷ ys) head ∙ ap (λ zs. b ∷ zs) here.0, here.1)
      | inr there ↦ inr (there.0, ap (λ z. z ∷ ys) head ∙ ap (λ zs. b ∷ zs) there.1)
    ]
