-- How the tokens of a text may be spaced: blanks and comments stand between any two tokens, and between two words there has to be one.
use Rattle.std.specs.Prelude.{◌≡◌, ℕ, ◌==◌, Bool, true, false, not, if◌then◌else◌, List, [], ◌∷◌, ◌++◌, Some, Ok}
use Rattle.std.specs.List.{list_all}
use Rattle.pl_syntax.specs.declared.scan.Language.TheVariants.{Phasers}
use Rattle.pl_syntax.specs.declared.token.Sign.{Sign}
use Rattle.pl_syntax.specs.Words.{begins_with, is_word_byte}
use Rattle.pl_syntax.specs.declared.tree.Program.{Program}
use Rattle.pl_syntax.specs.Grammar.{header, tokens}
use Rattle.pl_syntax.specs.Tokens.{Token, sign, word, name, number, is_blank, sign_of, word_token}

-- the byte ends no line
abbrev pub is_no_feed : ℕ → Bool
is_no_feed b = not (b == 10)

-- Blanks and comments: a comment is `//` and what follows up to its line feed. At the end of a text the last comment may have none: it is left open.
pub data IsGap (at_end : Bool) : List ℕ → Type 0 where
  empty : IsGap at_end []
  blank : {b : ℕ} {gap : List ℕ} → is_blank b ≡ true → IsGap at_end gap → IsGap at_end (b ∷ gap)
  comment :
      (text gap : List ℕ) → begins_with 47 text ≡ true → list_all is_no_feed text ≡ true → IsGap at_end gap → IsGap at_end (47 ∷ (text ++ (10 ∷ gap)))
  left_open : (text : List ℕ) → at_end ≡ true → begins_with 47 text ≡ true → list_all is_no_feed text ≡ true → IsGap at_end (47 ∷ text)

-- the bytes spell the token: a sign is one byte, and a word is a run of letters, digits and _ that is this token
pub data IsSpelling : Token → List ℕ → Type 0 where
  a_sign : {s : Sign} {b : ℕ} → sign_of true b ≡ Some s → IsSpelling (sign s) (b ∷ [])
  a_word : {t : Token} {b : ℕ} {bs : List ℕ} → list_all is_word_byte (b ∷ bs) ≡ true → word_token Phasers (b ∷ bs) ≡ Ok t → IsSpelling t (b ∷ bs)

-- keywords, names and numbers are words
abbrev pub is_a_word : Token → Bool
is_a_word (word k) = true
is_a_word (name x) = true
is_a_word (number n) = true
is_a_word t = false

-- The text is these tokens, each behind a gap, which is not empty between two words. Before the text stands a word, or not.
abbrev pub IsSpaced : Bool → List Token → List ℕ → Type 0
IsSpaced behind_word [] text = IsGap true text
IsSpaced behind_word (t ∷ ts) text =
    (gap : List ℕ) × (spelling : List ℕ) × (rest : List ℕ) × (text ≡ gap ++ (spelling ++ rest)) × IsGap false gap × IsSpelling t spelling
    × (behind_word ≡ true → is_a_word t ≡ true → gap ≡ [] → ⊥) × IsSpaced (is_a_word t) ts rest

-- the tokens of a program, those of its header too, without the end
abbrev pub all_tokens : Program → List Token
all_tokens p = if p.two then header ++ tokens p.body [] else tokens p.body []
