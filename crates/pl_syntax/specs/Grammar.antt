-- The grammar of PL over tokens, and the first fault of a text that is not in it.
use Rattle.std.specs.Prelude.{◌≡◌, ℕ, ◌+◌, ◌-◌, ◌≤◌, ◌⊎◌, Bool, true, false, List, [], ◌∷◌, ◌++◌, length, codes, Ok, Err}
use Rattle.armus_base.specs.declared.offset.Offset.{Offset}
use Rattle.armus_base.specs.declared.offset.Offset.TheVariants.{Ahead, Back, Here}
use Rattle.pl_syntax.specs.declared.limits.TheConstants.{MAX_OPEN_BRACES}
use Rattle.pl_syntax.specs.declared.fault.SyntaxFault.{SyntaxFault}
use Rattle.pl_syntax.specs.declared.token.Keyword.TheVariants as k
use Rattle.pl_syntax.specs.declared.token.Sign.TheVariants.{Equals, OpenParen, CloseParen, Comma, Semicolon, OpenBrace, CloseBrace, Plus, Minus}
use Rattle.pl_syntax.specs.declared.scan.Language.TheVariants.{Phasers}
use Rattle.pl_syntax.specs.declared.scan.Scan.{Scan}
use Rattle.pl_syntax.specs.declared.tree.Program.{Program}
use Rattle.pl_syntax.specs.Tokens.{Token, the_end, sign, word, name, number, kind_cannot_stand, kind_too_deep, front, place, Leads}
use Rattle.pl_syntax.specs.Tree.{Tree, done, plain, fork, loop, Plain, new_task, new_phaser, reg, dereg, adv, await, skip, height}

-- ---- the grammar: the tokens of each statement, before the tokens that follow it

-- `( x )`
abbrev pub with_name : List ℕ → List Token → List Token
with_name x rest = sign OpenParen ∷ name x ∷ sign CloseParen ∷ rest

-- `x = newTid ( ) ;`, or `x = newPhaser ( ) ;`
abbrev pub drawn : List ℕ → Token → List Token → List Token
drawn x maker rest = name x ∷ sign Equals ∷ maker ∷ sign OpenParen ∷ sign CloseParen ∷ sign Semicolon ∷ rest

-- `+ k`, or `- k`, or nothing
abbrev pub offset_tokens : Offset → List Token → List Token
offset_tokens Here rest = rest
offset_tokens (Back k) rest = sign Minus ∷ number k ∷ rest
offset_tokens (Ahead k) rest = sign Plus ∷ number k ∷ rest

-- the tokens of a statement without a body
abbrev pub plain_tokens : Plain → List Token → List Token
plain_tokens (new_task x) rest = drawn x (word k.NewTid) rest
plain_tokens (new_phaser x) rest = drawn x (word k.NewPhaser) rest
plain_tokens (reg x y) rest = word k.Reg ∷ sign OpenParen ∷ name x ∷ sign Comma ∷ name y ∷ sign CloseParen ∷ sign Semicolon ∷ rest
plain_tokens (dereg x) rest = word k.Dereg ∷ with_name x (sign Semicolon ∷ rest)
plain_tokens (adv x) rest = word k.Adv ∷ with_name x (sign Semicolon ∷ rest)
plain_tokens (await x off) rest =
    word k.Await ∷ sign OpenParen ∷ name x ∷ offset_tokens off (sign CloseParen ∷ sign Semicolon ∷ rest)
plain_tokens skip rest = word k.Skip ∷ sign Semicolon ∷ rest

-- the tokens of a list of statements
abbrev pub tokens : Tree → List Token → List Token
tokens done rest = rest
tokens (plain s more) rest = plain_tokens s (tokens more rest)
tokens (fork x body more) rest =
    word k.Fork ∷ with_name x (sign OpenBrace ∷ tokens body (sign CloseBrace ∷ tokens more rest))
tokens (loop n body more) rest =
    word k.Loop ∷ number n ∷ sign OpenBrace ∷ tokens body (sign CloseBrace ∷ tokens more rest)

-- the tokens of a list of statements, and then the end
abbrev pub sentence : Tree → List Token
sentence p = tokens p (the_end ∷ [])

-- `pl 2 ;`, with which a text of PL 2 begins
abbrev pub header : List Token
header = name (codes "pl") ∷ number 2 ∷ sign Semicolon ∷ []

-- how a text is read in PL 1 and in PL 2
abbrev pub scan_of : Bool → List ℕ → Scan
scan_of two text = record { total = length text; offsets = two; language = Phasers }

-- these tokens are the first ones of the text, in PL 2 those behind its header, and the rest is left: only behind the header are + and - signs
abbrev pub ReadsTokens : Bool → List ℕ → List Token → List ℕ → Type 0
ReadsTokens false text ts rest = Leads (scan_of false text) text ts rest
ReadsTokens true text ts rest = (mid : List ℕ) × Leads (scan_of false text) text header mid × Leads (scan_of true text) mid ts rest

-- the text is this program: its tokens are those of the program, and no more braces are open than may be
pub record IsText (text : List ℕ) (p : Program) : Type 0 where
  pub reads : ReadsTokens p.two text (sentence p.body) []
  pub shallow : height p.body ≤ MAX_OPEN_BRACES

-- ---- the first fault

-- some text begins so, the limit on open braces left aside: in PL 1, or with a part of the header; and in PL 2 behind its header
abbrev pub Begins : Bool → List Token → Type 0
Begins false ts = ((p : Tree) × (more : List Token) × (ts ++ more ≡ sentence p)) ⊎ ((more : List Token) × (ts ++ more ≡ header))
Begins true ts = (p : Tree) × (more : List Token) × (ts ++ more ≡ sentence p)

-- how many braces are open after a token, where n are before it
abbrev pub opened : Token → ℕ → ℕ
opened (sign OpenBrace) n = n + 1
opened (sign CloseBrace) n = n - 1
opened _ n = n

-- how many are open after these tokens
abbrev pub open_after : ℕ → List Token → ℕ
open_after n [] = n
open_after n (t ∷ ts) = open_after (opened t n) ts

-- at no point are more open than may be
abbrev pub StaysShallow : ℕ → List Token → Type 0
StaysShallow n [] = n ≤ MAX_OPEN_BRACES
StaysShallow n (t ∷ ts) = (n ≤ MAX_OPEN_BRACES) × StaysShallow (opened t n) ts

-- a word or a byte that is no token: kinds 1, 3 and 5
pub record IsNoToken (scan : Scan) (text : List ℕ) (fault : SyntaxFault) : Type 0 where
  pub here : front scan text ≡ Err fault

-- a token that cannot stand after those before it, since nothing of the grammar begins so: kind 2
pub record CannotStand (Starts : List Token → Type 0) (before : List Token) (scan : Scan) (text : List ℕ) (fault : SyntaxFault) : Type 0 where
  pub token : Token
  pub rest : List ℕ
  pub here : front scan text ≡ Ok (token, rest)
  pub stands_not : Starts (before ++ token ∷ []) → ⊥
  pub fault_is : fault ≡ record { at = place scan text; kind = kind_cannot_stand }

-- a brace that could stand, if as many as may be were not open: kind 4
pub record IsTooDeep (Starts : List Token → Type 0) (before : List Token) (scan : Scan) (text : List ℕ) (fault : SyntaxFault) : Type 0 where
  pub rest : List ℕ
  pub here : front scan text ≡ Ok (sign OpenBrace, rest)
  pub stands : Starts (before ++ sign OpenBrace ∷ [])
  pub full : open_after 0 before ≡ MAX_OPEN_BRACES
  pub fault_is : fault ≡ record { at = place scan text; kind = kind_too_deep }

-- behind the tokens before, the text goes on with a fault, where texts of the grammar begin with the tokens of Starts
pub data IsAtFault (Starts : List Token → Type 0) (before : List Token) (scan : Scan) (text : List ℕ) (fault : SyntaxFault) : Type 0 where
  no_token : IsNoToken scan text fault → IsAtFault Starts before scan text fault
  cannot_stand : CannotStand Starts before scan text fault → IsAtFault Starts before scan text fault
  too_deep : IsTooDeep Starts before scan text fault → IsAtFault Starts before scan text fault

-- The first fault of what is read from a start on, behind tokens that are all right. Some token has to be able to follow them: else
-- an accepted text would have a fault behind its end.
pub record IsFirstSyntaxFault (Starts : List Token → Type 0) (scan : Scan) (start : List ℕ) (fault : SyntaxFault) : Type 0 where
  pub before : List Token
  pub left : List ℕ
  pub reads : Leads scan start before left
  pub goes_on : (t : Token) × Starts (before ++ t ∷ [])
  pub shallow : StaysShallow 0 before
  pub here : IsAtFault Starts before scan left fault

-- The first fault of a text, in PL 1 or behind the header of PL 2: behind tokens that are all right. Some token has to be able to follow them: else an
-- accepted text would have a fault behind its end, and a whole header one of PL 1.
pub record HasFault (text : List ℕ) (fault : SyntaxFault) : Type 0 where
  pub two : Bool
  pub before : List Token
  pub left : List ℕ
  pub reads : ReadsTokens two text before left
  pub goes_on : (t : Token) × Begins two (before ++ t ∷ [])
  pub shallow : StaysShallow 0 before
  pub here : IsAtFault (Begins two) before (scan_of two text) left fault
