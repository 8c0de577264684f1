-- The braces that are open behind tokens of a text.
use Rattle.std.specs.Prelude.{ℕ, Bool, ◌-◌, List, [], ◌∷◌, ◌++◌, length, take, Option, Some, None}
use Rattle.pl_syntax.specs.declared.token.Sign.TheVariants.{OpenBrace, CloseBrace}
use Rattle.pl_syntax.specs.Tokens.{Token, sign}
use Rattle.explain_syntax.specs.Stands.{IsBalanced, IsInnermost}

-- these are the places of all braces that are open behind the tokens, the innermost one first
abbrev pub AreOpenBraces : List ℕ → Bool → List Token → List ℕ → Type 0
AreOpenBraces text two ts [] = IsBalanced ts
AreOpenBraces text two ts (at ∷ more) = (i : IsInnermost text two ts at) × AreOpenBraces text two i.ahead more

-- the innermost one of these
abbrev pub first_brace : List ℕ → Option ℕ
first_brace [] = None
first_brace (at ∷ more) = Some at

-- the stack behind one more token, where its last one is the innermost brace
abbrev pub braces_after : Token → ℕ → List ℕ → List ℕ
braces_after (sign OpenBrace) at braces = braces ++ at ∷ []
braces_after (sign CloseBrace) at braces = take (length braces - 1) braces
braces_after t at braces = braces
