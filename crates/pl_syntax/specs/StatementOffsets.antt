-- Where the statements of a text begin: an offset is a number of bytes before.
use Rattle.std.specs.Prelude.{◌≡◌, ℕ, List, [], ◌∷◌, ◌++◌}
use Rattle.std.specs.List.{AllZip}
use Rattle.pl_syntax.specs.declared.token.Sign.TheVariants.{CloseBrace}
use Rattle.pl_syntax.specs.declared.tree.Program.{Program}
use Rattle.pl_syntax.specs.Tokens.{Token, the_end, sign, place}
use Rattle.pl_syntax.specs.Tree.{Tree, done, plain, fork, loop}
use Rattle.pl_syntax.specs.Grammar.{ReadsTokens, scan_of, sentence, tokens}

-- the tokens from each of these statements on, in the order of the text; behind all of them stand the tokens rest
abbrev pub statement_tokens : Tree → List Token → List (List Token)
statement_tokens done rest = []
statement_tokens (plain s more) rest = tokens (plain s more) rest ∷ statement_tokens more rest
statement_tokens (fork x body more) rest =
    tokens (fork x body more) rest ∷ (statement_tokens body (sign CloseBrace ∷ tokens more rest) ++ statement_tokens more rest)
statement_tokens (loop n body more) rest =
    tokens (loop n body more) rest ∷ (statement_tokens body (sign CloseBrace ∷ tokens more rest) ++ statement_tokens more rest)

-- in the text of the program, so many bytes stand before the first of these tokens, which are its last ones
pub record BeginAt (text : List ℕ) (p : Program) (own : List Token) (offset : ℕ) : Type 0 where
  pub ahead : List Token
  pub left : List ℕ  -- bytes
  pub all : ahead ++ own ≡ sentence p.body
  pub reads : ReadsTokens p.two text ahead left
  pub offset_is : offset ≡ place (scan_of p.two text) left

-- the offsets of the program's statements, in the order of their numbers
abbrev pub AreOffsets : List ℕ → Program → List ℕ → Type 0
AreOffsets text p offsets = AllZip (BeginAt text p) (statement_tokens p.body (the_end ∷ [])) offsets
