-- Lines and cuts, one line longer.
use Rattle.std.proofs.Common.{◌≡◌, ◌≢◌, ◌-◌, ◌+◌, ◌≤◌, ◌∙◌, ℕ, List, [], ◌∷◌, ◌++◌, length, take, arith, sym, subst, ap, refl, append_assoc, append-nil, length-append}
use Rattle.std.proofs.lemmas.List.{length-take-le}
use Rattle.std.proofs.Math.Seq.{take-append_seam}
use Rattle.schedule.specs.Split.{IsSplit, no_text, more_text, mark}
use Rattle.schedule.specs.Lines.{IsFirstLine, ended, unended, IsCut, no_line, AllSay, none, more, Says}
use Rattle.schedule.specs.declared.lines.Line.{Line}

pub say_more : (texts : List (List ℕ)) (lines : List Line) (bytes : List ℕ) (line : Line) → AllSay texts lines → Says bytes line → AllSay (texts ++ bytes ∷ []) (lines ++ line ∷ [])
say_more _ _ bytes line none says = more bytes line [] [] says none
say_more _ _ bytes line (more b l rest lines says all) next = more b l (rest ++ bytes ∷ []) (lines ++ line ∷ []) says (say_more rest lines bytes line all next)

pub cut_at_end : (bytes : List ℕ) → length bytes ≡ 0 → IsCut bytes []
cut_at_end [] h = no_line
cut_at_end (b ∷ bytes) h = absurd (omega arith)

pub split_at_end : (bytes : List ℕ) → length bytes ≡ 0 → IsSplit bytes [] []
split_at_end [] h = no_text
split_at_end (b ∷ bytes) h = absurd (omega arith)

-- what stands before the rest behind the first line, as a front of the bytes
pub front_of : (bytes line rest : List ℕ) → IsFirstLine bytes line rest → (front : List ℕ) × bytes ≡ front ++ rest
front_of bytes line rest (ended _ same) = (line ++ 10 ∷ [], same ∙ sym (append_assoc line (10 ∷ []) rest))
front_of bytes line rest (unended _ _ same nothing) = (line, same ∙ sym (subst (λ r. line ++ r ≡ line) (sym nothing) (append-nil line)))

-- a front that is as long as this is a take
pub front_is : (input done front rest : List ℕ) (at : ℕ) → done ≡ take at input → at ≤ length input → input ≡ done ++ (front ++ rest)
    → take (at + (length (front ++ rest) - length rest)) input ≡ done ++ front
front_is input done front rest at is within same =
    let long : length done ≡ at = ap length is ∙ length-take-le at input within in
    let whole : input ≡ (done ++ front) ++ rest = same ∙ sym (append_assoc done front rest) in
    let ends : at + (length (front ++ rest) - length rest) ≡ length (done ++ front) = simp length-append (omega arith) in
    subst (λ i. take (at + (length (front ++ rest) - length rest)) i ≡ done ++ front) (sym whole)
    (subst (λ k. take k ((done ++ front) ++ rest) ≡ done ++ front) (sym ends) (take-append_seam (done ++ front) rest))

-- what the loop over the lines keeps: what stands before the rest is text, and a cut of the rest completes the cut
abbrev pub Keeps : List ℕ → ℕ → List ℕ → Type 0
Keeps input at rest =
    (input ≡ take at input ++ rest) × (at ≤ length input)
    × ((text schedule : List ℕ) → IsSplit rest text schedule → IsSplit input (take at input ++ text) schedule)

-- one more line is text
pub text_more : (input line front rest : List ℕ) (at : ℕ) → Keeps input at (front ++ rest) → IsFirstLine (front ++ rest) line rest → line ≢ mark
    → Keeps input (at + (length (front ++ rest) - length rest)) rest
text_more input line front rest at (same, within, splits) first other =
    let taken = front_is input (take at input) front rest at refl within same in
    let whole : input ≡ take (at + (length (front ++ rest) - length rest)) input ++ rest =
    subst (λ t. input ≡ t ++ rest) (sym taken) (same ∙ sym (append_assoc (take at input) front rest)) in
    let long : length input ≡ length (take at input) + (length front + length rest) = ap length same ∙ simp length-append refl in
    let enough : at + (length (front ++ rest) - length rest) ≤ length input = simp length-append (omega (arith, length-take-le at input within, long)) in (
      whole,
      enough,
      λ text schedule split.
          subst (λ t. IsSplit input t schedule) (ap (λ t. t ++ text) (sym taken))
          (subst (λ t. IsSplit input t schedule) (sym (append_assoc (take at input) front text))
          (splits (front ++ text) schedule (more_text (front ++ rest) line rest front text schedule first other refl split))),
    )

pub empty_of : (bytes : List ℕ) → length bytes ≡ 0 → bytes ≡ []
empty_of [] h = refl
empty_of (b ∷ bytes) h = absurd (omega arith)
