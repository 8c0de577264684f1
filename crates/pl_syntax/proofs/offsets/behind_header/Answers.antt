use Rattle.std.proofs.Common.{List, [], ◌∷◌, codes}
use Rattle.pl_syntax.specs.declared.token.Sign.TheVariants.{Semicolon}
use Rattle.pl_syntax.specs.Tokens.{Token, name, number, sign}
use Rattle.pl_syntax.specs.inside.Seen.{token_of}
use Rattle.pl_syntax.proofs.Beginnings.{leads_behind}
use Rattle.pl_syntax.proofs.offsets.behind_header.Goals as goal

-- what is left of the header
abbrev behind_pl : List Token
behind_pl = number 2 ∷ sign Semicolon ∷ []

pub token_at-requires-2-clause-some : goal.token_at-requires-2-clause-some
token_at-requires-2-clause-some c =
    let (mid, leads) = c.requires.header in
    let one = leads_behind c.args.scan c.args.text.now (name (codes "pl")) behind_pl mid (token_of c.token_at.result.0) c.token_at.result.1.now leads c.token_at.ensures.exact in
    (number 2, one.0, one.1)

pub token_at-requires-3-clause-some : goal.token_at-requires-3-clause-some
token_at-requires-3-clause-some c =
    let (mid, leads) = c.requires.header in
    let one = leads_behind c.args.scan c.args.text.now (name (codes "pl")) behind_pl mid (token_of c.token_at.result.0) c.token_at.result.1.now leads c.token_at.ensures.exact in
    let two = leads_behind c.args.scan c.token_at.result.1.now (number 2) (sign Semicolon ∷ []) mid (token_of c.token_at-2.result.0) c.token_at-2.result.1.now one c.token_at-2.ensures.exact in
    (sign Semicolon, two.0, two.1)

pub returns-clause-behind : goal.returns-clause-behind
returns-clause-behind c = λ mid leads.
    let one = leads_behind c.args.scan c.args.text.now (name (codes "pl")) behind_pl mid (token_of c.token_at.result.0) c.token_at.result.1.now leads c.token_at.ensures.exact in
    let two = leads_behind c.args.scan c.token_at.result.1.now (number 2) (sign Semicolon ∷ []) mid (token_of c.token_at-2.result.0) c.token_at-2.result.1.now one c.token_at-2.ensures.exact in
    leads_behind c.args.scan c.token_at-2.result.1.now (sign Semicolon) [] mid (token_of c.token_at-3.result.0) c.token_at-3.result.1.now two c.token_at-3.ensures.exact
