-- The words of bytes, one after the other.
use Rattle.std.proofs.Common.{◌≡◌, ℕ, true, false, ◌&&◌, ◌||◌, not, Some, None, List, [], ◌∷◌, length, sym, ◌∙◌, ap, inl, inr, ◌⊎◌, arith}
use Rattle.std.specs.Prelude.{bytes_eq, nat_lt}
use Rattle.std.specs.List.{after_first, list_any, position_or_len}
use Rattle.std.proofs.lemmas.Bool.{cases_lt, cond-true, cond-false, lt-ltb, le-ltb, or_left, and_left, and_right}
use Rattle.std.proofs.lemmas.List.{take_all}
use Rattle.std.proofs.lemmas.List.Elements.{All-from_get_or}
use Rattle.std.proofs.lemmas.List.Splits.{slice_split_first, slice_split_none}
use Rattle.std.proofs.lemmas.List.Sums.{fails_before_first}
use Rattle.trace_lines.specs.Grammar.{is_participant_name}
use Rattle.trace_lines.specs.inside.Reading.{are_names, behind_word, word_before_space, is_space, words_behind, spaced_words}

pub words_are : (bytes : List ℕ) → spaced_words bytes ≡ word_before_space bytes ∷ words_behind (behind_word bytes)
words_are bytes = elim (cases_lt (position_or_len is_space bytes) (length bytes)) [
  | inl within ↦
      slice_split_first is_space bytes 0 within
      ∙ ap (λ o. word_before_space bytes ∷ words_behind o) (sym (cond-true (nat_lt (position_or_len is_space bytes) (length bytes)) (Some (after_first is_space bytes)) None (lt-ltb (position_or_len is_space bytes) (length bytes) within)))
  | inr past ↦
      slice_split_none is_space bytes (All-from_get_or (λ b. is_space b ≡ false) bytes 0 (λ i within. fails_before_first is_space bytes i 0 (omega arith)))
      ∙ ap (λ l. l ∷ []) (sym (take_all (position_or_len is_space bytes) bytes past))
      ∙ ap (λ o. word_before_space bytes ∷ words_behind o) (sym (cond-false (nat_lt (position_or_len is_space bytes) (length bytes)) (Some (after_first is_space bytes)) None (le-ltb (position_or_len is_space bytes) (length bytes) past)))
]

-- one word after the other
pub has_here : (word bytes : List ℕ) → bytes_eq word (word_before_space bytes) ≡ true → list_any (bytes_eq word) (spaced_words bytes) ≡ true
has_here word bytes here = ap (list_any (bytes_eq word)) (words_are bytes) ∙ or_left (bytes_eq word (word_before_space bytes)) (list_any (bytes_eq word) (words_behind (behind_word bytes))) here

pub has_later : (word bytes : List ℕ) → bytes_eq word (word_before_space bytes) ≡ false → list_any (bytes_eq word) (spaced_words bytes) ≡ list_any (bytes_eq word) (words_behind (behind_word bytes))
has_later word bytes other = ap (list_any (bytes_eq word)) (words_are bytes) ∙ ap (λ b. b || list_any (bytes_eq word) (words_behind (behind_word bytes))) other

pub names_more :
    (bytes : List ℕ) → is_participant_name (word_before_space bytes) ≡ true → list_any (bytes_eq (word_before_space bytes)) (words_behind (behind_word bytes)) ≡ false →
    are_names (spaced_words bytes) ≡ are_names (words_behind (behind_word bytes))
names_more bytes name new =
    ap are_names (words_are bytes)
    ∙ ap (λ b. b && not (list_any (bytes_eq (word_before_space bytes)) (words_behind (behind_word bytes))) && are_names (words_behind (behind_word bytes))) name
    ∙ ap (λ b. not b && are_names (words_behind (behind_word bytes))) new

pub no_names :
    (bytes : List ℕ) → (is_participant_name (word_before_space bytes) ≡ false) ⊎ (list_any (bytes_eq (word_before_space bytes)) (words_behind (behind_word bytes)) ≡ true) →
    are_names (spaced_words bytes) ≡ false
no_names bytes (inl no_name) =
    ap are_names (words_are bytes)
    ∙ ap (λ b. b && not (list_any (bytes_eq (word_before_space bytes)) (words_behind (behind_word bytes))) && are_names (words_behind (behind_word bytes))) no_name
no_names bytes (inr twice) =
    ap are_names (words_are bytes)
    ∙ and_left (is_participant_name (word_before_space bytes) && not (list_any (bytes_eq (word_before_space bytes)) (words_behind (behind_word bytes)))) (are_names (words_behind (behind_word bytes)))
    (and_right (is_participant_name (word_before_space bytes)) (not (list_any (bytes_eq (word_before_space bytes)) (words_behind (behind_word bytes)))) (ap not twice))
