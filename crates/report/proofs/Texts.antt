-- The texts of the first of a list, and of one more.
use Rattle.std.proofs.Common.{◌≡◌, ℕ, ◌+◌, ◌<◌, ◌≤◌, List, [], ◌∷◌, ◌++◌, length, take, get_or, ap, ◌∙◌, sym, zero-add, arith}
use Rattle.std.specs.List.{enumerate_from, flat_map}
use Rattle.std.proofs.lemmas.List.{take_more, take_all, flat_map_more}
use Rattle.std.proofs.lemmas.List.FromFn.{length-enumerate_from, get_or-enumerate_from}

-- what f makes of the first n of a list, by their numbers
abbrev pub first_texts : {A : Type 0} → (ℕ → A → List ℕ) → ℕ → List A → List ℕ
first_texts f n all = flat_map (λ (t, x). f t x) (take n (enumerate_from 0 all))

-- a text that goes on with what f makes of the next one
pub texts_more : {A : Type 0} (f : ℕ → A → List ℕ) (d : A) (all : List A) (t : ℕ) → t < length all → (before text : List ℕ) →
    text ≡ before ++ first_texts f t all → text ++ f t (get_or all t d) ≡ before ++ first_texts f (t + 1) all
texts_more {A} f d all t lt before text e =
    let g : ℕ × A → List ℕ = λ (t, x). f t x in
    let numbered_all = enumerate_from 0 all in
    let n = length-enumerate_from 0 all in
    let more : take (t + 1) numbered_all ≡ take t numbered_all ++ get_or numbered_all t (0, d) ∷ [] =
    take_more numbered_all t (0, d) (omega (arith, n)) in
    let pair : ℕ → ℕ × A = λ n. (n, get_or all t d) in
    let here : get_or numbered_all t (0, d) ≡ pair t = get_or-enumerate_from 0 all t (0, d) lt ∙ ap pair (zero-add t) in
    ap (λ z. z ++ f t (get_or all t d)) e ∙ flat_map_more g before (take t numbered_all) (pair t)
    ∙ ap (λ xs. before ++ flat_map g xs) (sym (more ∙ ap (λ x. take t numbered_all ++ x ∷ []) here))

-- what f makes of all
pub texts_all : {A : Type 0} (f : ℕ → A → List ℕ) (all : List A) (t : ℕ) → length all ≤ t → first_texts f t all ≡ flat_map (λ (t, x). f t x) (enumerate_from 0 all)
texts_all f all t le = let n = length-enumerate_from 0 all in ap (λ xs. flat_map (λ (t, x). f t x) xs) (take_all t (enumerate_from 0 all) (omega (arith, n)))
