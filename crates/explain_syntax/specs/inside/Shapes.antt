-- What the walk over a text keeps of a statement: which tokens it still waits for.
use Rattle.std.specs.Prelude.{Bool, true, false, if◌then◌else◌, List, [], ◌∷◌}
use Rattle.pl_syntax.specs.declared.token.Keyword.TheVariants as k
use Rattle.pl_syntax.specs.declared.token.Sign.TheVariants.{Equals, OpenParen, CloseParen, Comma, Semicolon, OpenBrace, Plus, Minus}
use Rattle.pl_syntax.specs.Tokens.{Token, sign, word, name}
use Rattle.explain_syntax.specs.declared.shape.Shape.{Shape}
use Rattle.explain_syntax.specs.declared.shape.Shape.TheVariants as s
use Rattle.explain_syntax.specs.declared.wanted.WantedTokens.{WantedTokens}
use Rattle.explain_syntax.specs.declared.wanted.WantedTokens.TheVariants as w

-- `;`
abbrev pub then_semicolon : List Shape
then_semicolon = s.Sign Semicolon ∷ []

-- `( name ) ;`
abbrev pub then_named : List Shape
then_named = s.Sign OpenParen ∷ s.Name ∷ s.Sign CloseParen ∷ then_semicolon

-- what a statement waits for behind this first token
abbrev pub shapes_behind : Token → List Shape
shapes_behind (name x) = s.Sign Equals ∷ s.Maker ∷ s.Sign OpenParen ∷ s.Sign CloseParen ∷ then_semicolon
shapes_behind (word k.Reg) = s.Sign OpenParen ∷ s.Name ∷ s.Sign Comma ∷ s.Name ∷ s.Sign CloseParen ∷ then_semicolon
shapes_behind (word k.Dereg) = then_named
shapes_behind (word k.Adv) = then_named
shapes_behind (word k.Await) = s.Sign OpenParen ∷ s.Name ∷ s.Offset ∷ then_semicolon
shapes_behind (word k.Fork) = s.Sign OpenParen ∷ s.Name ∷ s.Sign CloseParen ∷ s.Sign OpenBrace ∷ []
shapes_behind (word k.Loop) = s.Number ∷ s.Sign OpenBrace ∷ []
shapes_behind (word k.Skip) = then_semicolon
shapes_behind _ = []

-- + or -
abbrev pub is_offset_sign : Token → Bool
is_offset_sign (sign Plus) = true
is_offset_sign (sign Minus) = true
is_offset_sign _ = false

-- what is waited for behind a token of this shape, where these follow it
abbrev pub shapes_on : Shape → List Shape → Token → List Shape
shapes_on s.Offset rest t = if is_offset_sign t then s.Number ∷ s.Sign CloseParen ∷ then_semicolon else rest
shapes_on shape rest t = rest

-- what is waited for behind one more token, where these were
abbrev pub shapes_after : List Shape → Token → List Shape
shapes_after [] t = shapes_behind t
shapes_after (shape ∷ rest) t = shapes_on shape rest t

-- what is wanted where this is waited for next, in PL 2 or not
abbrev pub wanted_next : Bool → Shape → WantedTokens
wanted_next two (s.Sign one) = w.Sign one
wanted_next two s.Name = w.Name
wanted_next two s.Number = w.Number
wanted_next two s.Maker = w.Maker
wanted_next two s.Offset = if two then w.ParenOrOffset else w.Sign CloseParen

-- what is wanted where these are waited for, and a brace is open or not
abbrev pub wanted_by : Bool → List Shape → Bool → WantedTokens
wanted_by two [] is_open = if is_open then w.StatementOrBrace else w.StatementOrEnd
wanted_by two (shape ∷ rest) is_open = wanted_next two shape
