-- The forms of words: keywords, names and numbers.
use Rattle.std.specs.Prelude.{◌≡◌, ℕ, ◌≤◌, true, List, length, None}
use Rattle.pl_syntax.specs.declared.limits.TheConstants.{MAX_NAME_BYTES}
use Rattle.pl_syntax.specs.declared.scan.Language.{Language}
use Rattle.pl_syntax.specs.declared.scan.Language.TheVariants.{Phasers}
use Rattle.pl_syntax.specs.Words.{has_name_form, keyword_in}

-- a name of a language has that form, is no longer than a name may be, and is no keyword of the language
pub record IsNameIn (language : Language) (w : List ℕ) : Type 0 where
  pub form : has_name_form w ≡ true
  pub short : length w ≤ MAX_NAME_BYTES
  pub free : keyword_in language w ≡ None

-- a name of PL
abbrev pub IsName : List ℕ → Type 0
IsName w = IsNameIn Phasers w
