-- Where the bodies of a text end: at the braces that close them.
use Rattle.std.specs.Prelude.{ℕ, List, [], ◌∷◌, ◌++◌, Option, Some, None}
use Rattle.std.specs.List.{AllZip}
use Rattle.pl_syntax.specs.declared.token.Sign.TheVariants.{CloseBrace}
use Rattle.pl_syntax.specs.declared.tree.Program.{Program}
use Rattle.pl_syntax.specs.Tokens.{Token, the_end, sign}
use Rattle.pl_syntax.specs.Tree.{Tree, done, plain, fork, loop}
use Rattle.pl_syntax.specs.Grammar.{tokens}
use Rattle.pl_syntax.specs.StatementOffsets.{BeginAt}

-- for each of these statements, in the order of the text, the tokens from the brace on that closes its body, if it has one; behind all of them stand the
-- tokens rest
abbrev pub end_tokens : Tree → List Token → List (Option (List Token))
end_tokens done rest = []
end_tokens (plain s more) rest = None ∷ end_tokens more rest
end_tokens (fork x body more) rest =
    Some (sign CloseBrace ∷ tokens more rest) ∷ (end_tokens body (sign CloseBrace ∷ tokens more rest) ++ end_tokens more rest)
end_tokens (loop n body more) rest =
    Some (sign CloseBrace ∷ tokens more rest) ∷ (end_tokens body (sign CloseBrace ∷ tokens more rest) ++ end_tokens more rest)

-- so many bytes stand before the brace, where there is one
abbrev pub EndsAt : List ℕ → Program → Option (List Token) → Option ℕ → Type 0
EndsAt text p None None = Unit {0}
EndsAt text p (Some own) (Some offset) = BeginAt text p own offset
EndsAt text p None (Some offset) = ⊥
EndsAt text p (Some own) None = ⊥

-- the offsets of the braces that close the bodies of the program's statements, in the order of the statements' numbers
abbrev pub AreEnds : List ℕ → Program → List (Option ℕ) → Type 0
AreEnds text p ends = AllZip (EndsAt text p) (end_tokens p.body (the_end ∷ [])) ends
