-- The first hint of a circle, found one by one.
use Rattle.std.proofs.Common.{◌≡◌, ◌∙◌, ℕ, ◌+◌, ◌<◌, false, true, List, [], ◌∷◌, ap, arith, drop, get_or, length, refl, sym, Vec, Global}
use Rattle.std.proofs.lemmas.Bool.{eq-eqb, eqb-true, false≢true}
use Rattle.std.specs.Prelude.{◌==◌}
use Rattle.std.specs.Vec.{vec_len}
use Rattle.std.proofs.lemmas.List.{drop_more}
use Rattle.armus_base.specs.declared.ids.TaskId.{TaskId}
use Rattle.explain_clock.specs.ClockFacts.{ClockFacts, end_at}
use Rattle.explain_clock.specs.ClockMends.{first_or_else, mend_by, mends, words_or}

-- words of no length
pub empty_words : (v : Vec ℕ Global) → (vec_len v == 0) ≡ true → v.items ≡ []
empty_words v e = nothing v.items (sym v.ok.0 ∙ eqb-true (vec_len v) 0 e)
  where
    nothing : (xs : List ℕ) → length xs ≡ 0 → xs ≡ []
    nothing [] none = refl
    nothing (x ∷ xs) none = absurd (omega arith)

-- and words of some
pub some_words : (v : Vec ℕ Global) → (vec_len v == 0) ≡ false → v.items ≡ [] → ⊥
some_words v off none = false≢true (sym off ∙ eq-eqb (vec_len v) 0 (v.ok.0 ∙ ap length none))

-- the activity at a place of the circle
pub first_there : (first : TaskId) (xs : List TaskId) (k : ℕ) (d : TaskId) → k < length xs → first_or_else first (drop k xs) ≡ get_or xs k d
first_there first xs k d lt = ap (first_or_else first) (drop_more xs k d lt)

module _ (f : ClockFacts) (first : TaskId) (xs : List TaskId) (i : ℕ) (d v : TaskId) (mend : List ℕ) (lt : i < length xs)
    (behind : v ≡ first_or_else first (drop (i + 1) xs)) (is : mend ≡ mend_by f v.0 (end_at f (get_or xs i d).0)) where
  here : mends f first (drop i xs) ≡ words_or mend (mends f first (drop (i + 1) xs))
  here =
      ap (mends f first) (drop_more xs i d lt)
      ∙ ap (λ (u : TaskId). words_or (mend_by f u.0 (end_at f (get_or xs i d).0)) (mends f first (drop (i + 1) xs))) (sym behind)
      ∙ ap (λ w. words_or w (mends f first (drop (i + 1) xs))) (sym is)

  -- none fits there
  pub mends_on : mend ≡ [] → mends f first (drop i xs) ≡ mends f first xs → mends f first (drop (i + 1) xs) ≡ mends f first xs
  mends_on none all = sym (ap (λ w. words_or w (mends f first (drop (i + 1) xs))) none) ∙ sym here ∙ all

  -- or one does
  pub mends_here : (mend ≡ [] → ⊥) → mends f first (drop i xs) ≡ mends f first xs → mend ≡ mends f first xs
  mends_here some all = first_words mend some (mends f first (drop (i + 1) xs)) ∙ sym here ∙ all
    where
      first_words : (w : List ℕ) → (w ≡ [] → ⊥) → (others : List ℕ) → w ≡ words_or w others
      first_words [] not_none others = absurd (not_none refl)
      first_words (b ∷ bs) not_none others = refl
