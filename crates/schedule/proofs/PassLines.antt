-- The lines of the first passes, and of one more.
use Rattle.std.proofs.Common.{◌≡◌, ℕ, ◌+◌, ◌<◌, ◌≤◌, List, [], ◌∷◌, ◌++◌, length, take, get_or, ap, ◌∙◌, sym, arith}
use Rattle.std.specs.List.{enumerate_from, flat_map}
use Rattle.std.proofs.lemmas.List.{take_more, take_all, flat_map_more}
use Rattle.std.proofs.lemmas.List.FromFn.{length-enumerate_from, get_or-enumerate_from}
use Rattle.schedule.specs.declared.verdict.PassVerdict.{PassVerdict}
use Rattle.schedule.specs.Texts.{pass_line, pass_lines}

-- the lines of the first n passes
abbrev pub first_lines : ℕ → List PassVerdict → List ℕ
first_lines n all = flat_map (λ (k, v). pass_line k v) (take n (enumerate_from 1 all))

swap_one : (i : ℕ) → 1 + i ≡ i + 1
swap_one i = omega arith

-- a text that goes on with the line of one pass more
pub pass_lines_more :
    (all : List PassVerdict) (i : ℕ) (d : PassVerdict) → i < length all → (before text : List ℕ) → text ≡ before ++ first_lines i all →
    text ++ pass_line (i + 1) (get_or all i d) ≡ before ++ first_lines (i + 1) all
pass_lines_more all i d lt before text e =
    let f : ℕ × PassVerdict → List ℕ = λ (k, v). pass_line k v in
    let numbered = enumerate_from 1 all in
    let n = length-enumerate_from 1 all in
    let more : take (i + 1) numbered ≡ take i numbered ++ get_or numbered i (0, d) ∷ [] = take_more numbered i (0, d) (omega (arith, n)) in
    let pair : ℕ → ℕ × PassVerdict = λ k. (k, get_or all i d) in
    let here : get_or numbered i (0, d) ≡ pair (i + 1) = get_or-enumerate_from 1 all i (0, d) lt ∙ ap pair (swap_one i) in
    ap (λ z. z ++ pass_line (i + 1) (get_or all i d)) e ∙ flat_map_more f before (take i numbered) (pair (i + 1))
    ∙ ap (λ xs. before ++ flat_map f xs) (sym (more ∙ ap (λ x. take i numbered ++ x ∷ []) here))

-- the lines of all passes
pub pass_lines_all : (all : List PassVerdict) (i : ℕ) → length all ≤ i → first_lines i all ≡ pass_lines all
pass_lines_all all i le = let n = length-enumerate_from 1 all in ap (λ xs. flat_map (λ (k, v). pass_line k v) xs) (take_all i (enumerate_from 1 all) (omega (arith, n)))
