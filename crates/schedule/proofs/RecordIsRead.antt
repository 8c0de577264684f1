-- A record is split into its text and the lines of its steps.
use Rattle.std.proofs.Common.{◌≡◌, ◌≢◌, ◌<◌, ◌≤◌, ◌^◌, ◌*◌, ◌∙◌, ℕ, zero, suc, List, [], ◌∷◌, ◌++◌, length, arith, sym, subst, ap, refl, codes, inl, inr, append_assoc, length-append, map}
use Rattle.std.specs.Fmt.{decimal}
use Rattle.std.specs.Prelude.{Contains}
use Rattle.std.specs.Str.Parse.{AllDigits, digits_value}
use Rattle.std.proofs.lemmas.Fmt.{digits_decimal, length-decimal-le}
use Rattle.std.proofs.lemmas.List.{get_or_default}
use Rattle.std.proofs.lemmas.Str.Parse.{IsNumeralModel, numerals_by_value, tells_digits, not_in_digits}
use Rattle.armus_base.specs.declared.ids.TaskId.{TaskId}
use Rattle.armus_base.proofs.Elements.{Contains-head, Contains-tail}
use Rattle.schedule.specs.Lines.{AllSay, HasNoEnd, IsCut, IsFirstLine, IsSchedule, a_line, ended, more, no_line, none, unended}
use Rattle.schedule.specs.Split.{IsSplit, at_mark, mark, more_text}
use Rattle.schedule.proofs.LinesExist.{first_exists, no_end_more, no_end_nil}
use Rattle.schedule.proofs.OneSchedule.{no_end_inside}
use Rattle.schedule.specs.calls.Records.{AreReadable, HasNoMark, RecordIsRead, step_of}
use Rattle.schedule.specs.Records.{IsClosedText, IsEnded, recorded, step_line, step_lines}

own : IsNumeralModel (AllDigits 10) (digits_value 10)
own = numerals_by_value (AllDigits 10) tells_digits

-- ---- the split

no_end_mark : HasNoEnd mark
no_end_mark = no_end_more 37 (37 ∷ []) (λ e. absurd (omega arith)) (no_end_more 37 [] (λ e. absurd (omega arith)) no_end_nil)

some_ended : (bytes rest : List ℕ) → bytes ++ 10 ∷ rest ≡ [] → ⊥
some_ended [] rest e = absurd (cc)
some_ended (b ∷ bytes) rest e = absurd (cc)

-- what stands behind the first line is ended too
ended_behind : (line rest front : List ℕ) → line ++ 10 ∷ rest ≡ front ++ 10 ∷ [] → IsEnded rest
ended_behind [] rest [] e = inl (cc)
ended_behind [] rest (y ∷ ys) e = inr (ys, cc)
ended_behind (x ∷ xs) rest [] e = absurd (some_ended xs rest (cc))
ended_behind (x ∷ xs) rest (y ∷ ys) e = ended_behind xs rest ys (cc)

module _ (closed line rest : List ℕ) (is : closed ≡ line ++ 10 ∷ rest) where
  rest_ended : IsEnded closed → IsEnded rest
  rest_ended (inl empty) = absurd (some_ended line rest (sym is ∙ empty))
  rest_ended (inr (front, ends)) = ended_behind line rest front (sym is ∙ ends)

  rest_unmarked : HasNoMark closed → HasNoMark rest
  rest_unmarked free after = (
    λ e. (free after).1 line (is ∙ ap (λ r. line ++ 10 ∷ r) e),
    λ front e. (free after).1 (line ++ 10 ∷ front) (is ∙ ap (λ r. line ++ 10 ∷ r) e ∙ sym (append_assoc line (10 ∷ front) (10 ∷ 37 ∷ after))),
  )

  line_unlike : HasNoMark closed → line ≢ mark
  line_unlike free same = (free (37 ∷ 10 ∷ rest)).0 (is ∙ ap (λ l. l ++ 10 ∷ rest) same)

  -- one line of text more
  text_more : (tail schedule : List ℕ) → HasNoEnd line → HasNoMark closed → IsSplit (rest ++ tail) rest schedule → IsSplit (closed ++ tail) closed schedule
  text_more tail schedule unended_line free split =
      let whole : closed ++ tail ≡ line ++ 10 ∷ (rest ++ tail) = ap (λ c. c ++ tail) is ∙ append_assoc line (10 ∷ rest) tail in
      subst (λ t. IsSplit (closed ++ tail) t schedule) (append_assoc line (10 ∷ []) rest ∙ sym is)
      (more_text (closed ++ tail) line (rest ++ tail) (line ++ 10 ∷ []) rest schedule (ended unended_line whole) (line_unlike free)
      (whole ∙ sym (append_assoc line (10 ∷ []) (rest ++ tail))) split)

unended_not : (bytes line front : List ℕ) → HasNoEnd line → bytes ≡ line → bytes ≡ front ++ 10 ∷ [] → ⊥
unended_not bytes line front free is ends = no_end_inside front [] (subst HasNoEnd (sym is ∙ ends) free)

by_first :
    (b : ℕ) (bytes line rest schedule : List ℕ) → IsFirstLine (b ∷ bytes) line rest → IsEnded (b ∷ bytes) → HasNoMark (b ∷ bytes) →
    (IsEnded rest → HasNoMark rest → IsSplit (rest ++ (mark ++ 10 ∷ schedule)) rest schedule) →
    IsSplit ((b ∷ bytes) ++ (mark ++ 10 ∷ schedule)) (b ∷ bytes) schedule
by_first b bytes line rest schedule (ended no_end is) ends free later =
    text_more (b ∷ bytes) line rest is (mark ++ 10 ∷ schedule) schedule no_end free
    (later (rest_ended (b ∷ bytes) line rest is ends) (rest_unmarked (b ∷ bytes) line rest is free))
by_first b bytes line rest schedule (unended no_end some is nothing) (inl e) free later = absurd (cc)
by_first b bytes line rest schedule (unended no_end some is nothing) (inr (front, e)) free later = absurd (unended_not (b ∷ bytes) line front no_end is e)

split_within : (most : ℕ) (closed schedule : List ℕ) → length closed ≤ most → IsEnded closed → HasNoMark closed → IsSplit (closed ++ (mark ++ 10 ∷ schedule)) closed schedule
split_within most [] schedule few ends free = at_mark (mark ++ 10 ∷ schedule) schedule (ended no_end_mark refl)
split_within zero (b ∷ bytes) schedule few ends free = absurd (omega arith)
split_within (suc most) (b ∷ bytes) schedule few ends free =
    let h = first_exists b bytes in
    by_first b bytes h.line h.rest schedule h.first ends free (λ e f. split_within most h.rest schedule (omega (arith, h.shorter)) e f)

record_is_split : (closed : List ℕ) (journal : List TaskId) → IsEnded closed → HasNoMark closed → IsSplit (recorded closed journal) closed (step_lines journal)
record_is_split closed journal ends free =
    subst (λ bytes. IsSplit bytes closed (step_lines journal)) (sym (append_assoc closed (mark ++ 10 ∷ []) (step_lines journal)))
    (split_within (length closed) closed (step_lines journal) (omega arith) ends free)

-- ---- the lines

-- the words of the line of a step
abbrev words : TaskId → List ℕ
words t = codes "t " ++ decimal t.0

words_free : (t : TaskId) → t.0 < 2 ^ 64 → HasNoEnd (words t)
words_free t fits =
    no_end_more 116 (32 ∷ decimal t.0) (λ e. absurd (omega arith))
    (no_end_more 32 (decimal t.0) (λ e. absurd (omega arith))
    (λ k d l e. not_in_digits own (decimal t.0) 10 (digits_decimal own t.0 fits) (λ h. absurd (omega arith)) k l (get_or_default (decimal t.0) k 0 d l ∙ e)))

steps_cut : (journal : List TaskId) → ((t : TaskId) → Contains journal t → t.0 < 2 ^ 64) → IsCut (step_lines journal) (map words journal)
steps_cut [] small = no_line
steps_cut (t ∷ journal) small =
    a_line (step_lines (t ∷ journal)) (words t) (step_lines journal) (map words journal)
    (ended (words_free t (small t (Contains-head t journal))) (append_assoc (words t) (10 ∷ []) (step_lines journal)))
    (steps_cut journal (λ u m. small u (Contains-tail t journal u m)))

steps_say : (journal : List TaskId) → ((t : TaskId) → Contains journal t → t.0 < 10 ^ 9) → AllSay (map words journal) (map step_of journal)
steps_say [] small = none
steps_say (t ∷ journal) small =
    more (words t) (step_of t) (map words journal) (map step_of journal) (small t (Contains-head t journal), refl)
    (steps_say journal (λ u m. small u (Contains-tail t journal u m)))

steps_are_lines : (journal : List TaskId) → AreReadable journal → IsSchedule (step_lines journal) (map step_of journal)
steps_are_lines journal small =
    record { texts = map words journal; cut = steps_cut journal (λ t m. omega (arith, small t m)); say = steps_say journal small }

-- ---- both

closed_ended : (text closed : List ℕ) → IsClosedText text closed → IsEnded closed
closed_ended text closed (inl (same, ends)) = subst IsEnded (sym same) ends
closed_ended text closed (inr (longer, unclosed)) = inr (text, longer)

pub record_is_read : RecordIsRead
record_is_read text bytes journal r free readable = (
  step_lines journal,
  subst (λ b. IsSplit b r.closed (step_lines journal)) (sym r.bytes_are)
      (record_is_split r.closed journal (closed_ended text r.closed r.closed_is) free),
  steps_are_lines journal readable,
)

-- ---- the length

step_short : (t : TaskId) → t.0 < 10 ^ 4 → length (step_line t) ≤ 7
step_short t small =
    let few = length-decimal-le 4 t.0 (omega arith) small (omega arith) in
    omega (arith, length-append (words t) (10 ∷ []), few)

pub steps_short : (journal : List TaskId) → ((t : TaskId) → Contains journal t → t.0 < 10 ^ 4) → length (step_lines journal) ≤ 7 * length journal
steps_short [] small = omega arith
steps_short (t ∷ journal) small =
    let one = step_short t (small t (Contains-head t journal)) in
    let rest = steps_short journal (λ u m. small u (Contains-tail t journal u m)) in
    omega (arith, length-append (step_line t) (step_lines journal), one, rest)
