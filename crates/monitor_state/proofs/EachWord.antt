-- Tests of words that stand one behind the other.
use Rattle.std.proofs.Common.{◌≡◌, ℕ, Bool, true, false, List, Some, sym, ◌∙◌, ap}
use Rattle.std.specs.Prelude.{find}
use Rattle.std.proofs.lemmas.Bool.{cond-true, cond-false}
use Rattle.trace_lines.specs.inside.Reading.{behind_word, spaced_words, word_before_space, words_behind}
use Rattle.trace_lines.proofs.WordByWord.{words_are}

module _ (test : List ℕ → Bool) where
  pub found_here : (bytes : List ℕ) → test (word_before_space bytes) ≡ true → find test (spaced_words bytes) ≡ Some (word_before_space bytes)
  found_here bytes here =
      ap (find test) (words_are bytes)
      ∙ cond-true (test (word_before_space bytes)) (Some (word_before_space bytes)) (find test (words_behind (behind_word bytes))) here

  pub found_later : (bytes : List ℕ) → test (word_before_space bytes) ≡ false → find test (words_behind (behind_word bytes)) ≡ find test (spaced_words bytes)
  found_later bytes other =
      sym (ap (find test) (words_are bytes)
      ∙ cond-false (test (word_before_space bytes)) (Some (word_before_space bytes)) (find test (words_behind (behind_word bytes))) other)
