-- Where statements begin in a list of tokens.
use Rattle.std.specs.Prelude.{ℕ, Bool, true, false, not, ◌&&◌, if◌then◌else◌, List, [], ◌∷◌, ◌++◌}
use Rattle.pl_syntax.specs.declared.token.Sign.TheVariants.{Semicolon, OpenBrace, CloseBrace}
use Rattle.pl_syntax.specs.Tokens.{Token, sign}
use Rattle.pl_syntax.specs.inside.Reading.{ends_list}

-- a statement may begin behind this token: a statement ends with it, or a body begins or ends
abbrev pub is_boundary : Token → Bool
is_boundary (sign Semicolon) = true
is_boundary (sign OpenBrace) = true
is_boundary (sign CloseBrace) = true
is_boundary t = false

-- this token begins a statement, where one may begin or not
abbrev pub begins_statement : Bool → Token → Bool
begins_statement may t = may && not (ends_list t)

-- the tokens from each statement on, where the first of these tokens may begin one or not
abbrev pub beginnings : Bool → List Token → List (List Token)
beginnings may [] = []
beginnings may (t ∷ ts) =
    if begins_statement may t then (t ∷ ts) ∷ beginnings (is_boundary t) ts else beginnings (is_boundary t) ts

-- one offset more, where there is a statement
abbrev pub with_offset : Bool → ℕ → List ℕ → List ℕ
with_offset begins offset offsets = if begins then offsets ++ offset ∷ [] else offsets
