-- The closing braces of a text, in order, and which statement's body each of them closes.
use Rattle.std.specs.Prelude.{ℕ, ◌+◌, Bool, true, false, if◌then◌else◌, List, [], ◌∷◌, ◌++◌, drop, Option, None, slice_get}
use Rattle.pl_syntax.specs.declared.token.Sign.TheVariants.{CloseBrace}
use Rattle.pl_syntax.specs.Tokens.{Token, sign}
use Rattle.pl_syntax.specs.Tree.{Tree, done, plain, fork, loop}
use Rattle.pl_syntax.specs.Grammar.{tokens}

-- this token closes a body
abbrev pub closes : Token → Bool
closes (sign CloseBrace) = true
closes t = false

-- the tokens from each closing brace on
abbrev pub closings : List Token → List (List Token)
closings [] = []
closings (t ∷ ts) = if closes t then (t ∷ ts) ∷ closings ts else closings ts

-- the tokens from each brace on that closes a body of these statements: that of a body stands behind those inside of it
abbrev pub brace_tokens : Tree → List Token → List (List Token)
brace_tokens done rest = []
brace_tokens (plain s more) rest = brace_tokens more rest
brace_tokens (fork x body more) rest =
    brace_tokens body (sign CloseBrace ∷ tokens more rest) ++ ((sign CloseBrace ∷ tokens more rest) ∷ brace_tokens more rest)
brace_tokens (loop n body more) rest =
    brace_tokens body (sign CloseBrace ∷ tokens more rest) ++ ((sign CloseBrace ∷ tokens more rest) ∷ brace_tokens more rest)

-- how many bodies these statements have
abbrev pub bodies : Tree → ℕ
bodies done = 0
bodies (plain s more) = bodies more
bodies (fork x body more) = bodies body + 1 + bodies more
bodies (loop n body more) = bodies body + 1 + bodies more

-- for each statement, the brace that closes its body, by the braces in the order of the text
abbrev pub ends_by : Tree → List ℕ → List (Option ℕ)
ends_by done braces = []
ends_by (plain s more) braces = None ∷ ends_by more braces
ends_by (fork x body more) braces = slice_get braces (bodies body) ∷ (ends_by body braces ++ ends_by more (drop (bodies body + 1) braces))
ends_by (loop n body more) braces = slice_get braces (bodies body) ∷ (ends_by body braces ++ ends_by more (drop (bodies body + 1) braces))
