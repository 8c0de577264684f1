-- The walk over a text up to its first fault.
use Rattle.std.specs.Prelude.{◌≡◌, ℕ, Bool, false, true, List, [], ◌∷◌, ◌++◌}
use Rattle.pl_syntax.specs.declared.fault.SyntaxFault.{SyntaxFault}
use Rattle.pl_syntax.specs.Tokens.{Token, Leads, place}
use Rattle.pl_syntax.specs.Grammar.{Begins, HasFault, scan_of}

-- behind these tokens of statements, which go on, stands byte `at` of the text; and what begins texts behind them begins lists of statements
pub record WalkComesTo (text : List ℕ) (two : Bool) (body : List ℕ) (at : ℕ) (before : List Token) : Type 0 where
  pub left : List ℕ
  pub reads : Leads (scan_of two text) body before left
  pub goes_on : (t : Token) × Begins true (before ++ t ∷ [])
  pub only : (t : Token) → Begins two (before ++ t ∷ []) → Begins true (before ++ t ∷ [])
  pub at_is : at ≡ place (scan_of two text) left

-- the fault stands within no header
abbrev pub IsOutside : (text : List ℕ) (fault : SyntaxFault) → Type 0
IsOutside text fault =
    (b : HasFault text fault) → b.two ≡ false → (t : Token) → Begins false (b.before ++ t ∷ []) → Begins true (b.before ++ t ∷ [])
