-- Bytes are cut into lines in one way.
use Rattle.std.proofs.Common.{◌≡◌, ℕ, Bool, true, false, ◌||◌, List, [], ◌∷◌, ◌++◌, refl, sym, ◌∙◌, ap, subst, inl, inr, ◌⊎◌, append_assoc}
use Rattle.std.specs.Prelude.{Contains, ◌==◌, reverse}
use Rattle.std.proofs.lemmas.Bool.{cases_Bool, eqb-true}
use Rattle.std.proofs.lemmas.List.{reverse-append, reverse-reverse}
use Rattle.armus_base.proofs.Elements.{Contains-head, Contains-tail, nothing_in_nil}
use Rattle.monitor.specs.HeardLines.{AreHeardLines, ended_lines, has_line_end}
use Rattle.monitor.specs.Laws.{HasOneCut, HasSomeCut}
use Rattle.monitor.proofs.Bytes.{cut_end, cut_more, no_end_alone}

-- an LF behind some bytes
ends_behind : (front rest : List ℕ) → has_line_end (front ++ 10 ∷ rest) ≡ true
ends_behind [] rest = refl
ends_behind (b ∷ front) rest = by_more (b == 10) (has_line_end (front ++ 10 ∷ rest)) (ends_behind front rest)
  where
    by_more : (x y : Bool) → y ≡ true → (x || y) ≡ true
    by_more true y is = refl
    by_more false y is = is

no_end_in : (front rest more : List ℕ) → rest ≡ front ++ 10 ∷ more → has_line_end rest ≡ false → ⊥
no_end_in front rest more is none = let e : true ≡ false = sym (ends_behind front more) ∙ ap has_line_end (sym is) ∙ none in cc

-- the last LF of some bytes stands at one place
one_end : (front other rest more : List ℕ) → front ++ 10 ∷ rest ≡ other ++ 10 ∷ more → has_line_end rest ≡ false → has_line_end more ≡ false → (front ≡ other) × (rest ≡ more)
one_end [] [] rest more is none no_more = (refl, by_tail is)
  where
    by_tail : 10 ∷ rest ≡ 10 ∷ more → rest ≡ more
    by_tail e = cc
one_end [] (b ∷ other) rest more is none no_more = absurd (no_end_in other rest more (by_tail is) none)
  where
    by_tail : 10 ∷ rest ≡ b ∷ (other ++ 10 ∷ more) → rest ≡ other ++ 10 ∷ more
    by_tail e = cc
one_end (b ∷ front) [] rest more is none no_more = absurd (no_end_in front more rest (by_tail is) no_more)
  where
    by_tail : b ∷ (front ++ 10 ∷ rest) ≡ 10 ∷ more → more ≡ front ++ 10 ∷ rest
    by_tail e = cc
one_end (b ∷ front) (d ∷ other) rest more is none no_more =
    let both = one_end front other rest more (by_tail is) none no_more in
    (ap (λ x. x ∷ front) (by_head is) ∙ ap (λ x. d ∷ x) both.0, both.1)
  where
    by_tail : b ∷ (front ++ 10 ∷ rest) ≡ d ∷ (other ++ 10 ∷ more) → front ++ 10 ∷ rest ≡ other ++ 10 ∷ more
    by_tail e = cc

    by_head : b ∷ (front ++ 10 ∷ rest) ≡ d ∷ (other ++ 10 ∷ more) → b ≡ d
    by_head e = cc

-- the LF of the last whole line
last_end : (line : List ℕ) (before : List (List ℕ)) (rest : List ℕ) → ended_lines (line ∷ before) ++ rest ≡ (ended_lines before ++ line) ++ 10 ∷ rest
last_end line before rest = append_assoc (ended_lines before ++ line) (10 ∷ []) rest

-- without its LF the last whole line is what stands behind the others
before_end : (line : List ℕ) (before : List (List ℕ)) → ((l : List ℕ) → Contains (line ∷ before) l → has_line_end l ≡ false) → AreHeardLines (ended_lines before ++ line) before line
before_end line before whole = record { are = refl; whole = λ l within. whole l (Contains-tail line before l within); open_end = whole line (Contains-head line before) }

pub has_one_cut : HasOneCut
has_one_cut bytes [] [] rest more one other = (refl, sym one.are ∙ other.are)
has_one_cut bytes [] (line ∷ others) rest more one other =
    absurd (no_end_in (ended_lines others ++ line) rest more (sym one.are ∙ other.are ∙ last_end line others more) one.open_end)
has_one_cut bytes (line ∷ before) [] rest more one other =
    absurd (no_end_in (ended_lines before ++ line) more rest (sym other.are ∙ one.are ∙ last_end line before rest) other.open_end)
has_one_cut bytes (line ∷ before) (last ∷ others) rest more one other =
    let both = one_end (ended_lines before ++ line) (ended_lines others ++ last) rest more (sym (last_end line before rest) ∙ sym one.are ∙ other.are ∙ last_end last others more) one.open_end other.open_end in
    let front = has_one_cut (ended_lines before ++ line) before others line last (before_end line before one.whole)
    (subst (λ x. AreHeardLines x others last) (sym both.0) (before_end last others other.whole)) in
    (ap (λ x. line ∷ x) front.0 ∙ ap (λ x. x ∷ others) front.1, both.1)

-- the cut of the bytes so far, the last first
cut_of : (back : List ℕ) → (lines : List (List ℕ)) × (rest : List ℕ) × AreHeardLines (reverse back) lines rest
cut_of [] = ([], [], record { are = refl; whole = λ line within. absurd (nothing_in_nil line within); open_end = refl })
cut_of (b ∷ back) = by_byte (cases_Bool (b == 10)) (cut_of back)
  where
    turned : reverse (b ∷ back) ≡ reverse back ++ b ∷ []
    turned = reverse-append (b ∷ []) back

    by_byte : ((b == 10) ≡ true) ⊎ ((b == 10) ≡ false) → ((lines : List (List ℕ)) × (rest : List ℕ) × AreHeardLines (reverse back) lines rest) → (lines : List (List ℕ)) × (rest : List ℕ) × AreHeardLines (reverse (b ∷ back)) lines rest
    by_byte (inl end) (lines, rest, cut) =
        (rest ∷ lines, [], subst (λ x. AreHeardLines x (rest ∷ lines) []) (ap (λ x. reverse back ++ x ∷ []) (sym (eqb-true b 10 end)) ∙ sym turned) (cut_end (reverse back) lines rest cut))
    by_byte (inr other) (lines, rest, cut) =
        (lines, rest ++ b ∷ [], subst (λ x. AreHeardLines x lines (rest ++ b ∷ [])) (sym turned) (cut_more (reverse back) lines rest (b ∷ []) cut (no_end_alone b other)))

pub has_some_cut : HasSomeCut
has_some_cut bytes = let found = cut_of (reverse bytes) in (found.0, found.1, subst (λ x. AreHeardLines x found.0 found.1) (reverse-reverse bytes) found.2)
