-- The walk's step is that of the machine of tokens.
use Rattle.std.proofs.Common.{◌≡◌, ℕ, zero, suc, ◌==◌, Bool, true, false, ◌||◌, cond, List, [], ◌∷◌, Option, Some, None, refl, sym, ap, subst, ◌∙◌, inl, inr}
use Rattle.std.specs.Prelude.{is_some}
use Rattle.pl_syntax.specs.declared.token.Keyword.{Keyword}
use Rattle.pl_syntax.specs.declared.token.Keyword.TheVariants as k
use Rattle.pl_syntax.specs.declared.token.Sign.{Sign}
use Rattle.pl_syntax.specs.declared.token.Sign.TheVariants.{Equals, OpenParen, CloseParen, Comma, Semicolon, OpenBrace, CloseBrace, Plus, Minus}
use Rattle.pl_syntax.specs.Tokens.{Token, the_end, sign, word, name, number}
use Rattle.pl_syntax.specs.inside.Reading as r
use Rattle.pl_syntax.specs.Grammar.{opened}
use Rattle.pl_syntax.proofs.Fronts.{chosen}
use Rattle.pl_syntax.proofs.Machine as m
use Rattle.pl_syntax.proofs.Machine.{State, at, a_sign, a_name, a_number, a_maker, an_offset, fits, then, step, first_step, begun_at}
use Rattle.pl_syntax.proofs.Begun.{firsts, word_firsts}
use Rattle.explain_syntax.specs.declared.shape.Shape.{Shape}
use Rattle.explain_syntax.specs.declared.shape.Shape.TheVariants as s
use Rattle.explain_syntax.specs.declared.wanted.WantedTokens.TheVariants as w
use Rattle.explain_syntax.specs.Wanted.{IsTokenOf, is_statement_keyword, is_sign, is_wanted}
use Rattle.explain_syntax.specs.Wanted as own
use Rattle.explain_syntax.specs.inside.Shapes.{then_semicolon, shapes_after, shapes_behind, shapes_on, wanted_by, wanted_next}

-- the machine's shape
abbrev pub shape_of : Shape → m.Shape
shape_of (s.Sign x) = a_sign x
shape_of s.Name = a_name
shape_of s.Number = a_number
shape_of s.Maker = a_maker
shape_of s.Offset = an_offset

abbrev pub shapes_of : List Shape → List m.Shape
shapes_of [] = []
shapes_of (x ∷ xs) = shape_of x ∷ shapes_of xs

-- no statement waits for one of these
abbrev is_apart : Sign → Bool
is_apart CloseBrace = true
is_apart Plus = true
is_apart Minus = true
is_apart _ = false

-- shapes of statements: behind an offset `;` ends the statement
abbrev pub AreKnown : List Shape → Type 0
AreKnown [] = Unit {0}
AreKnown (s.Sign x ∷ rest) = (is_apart x ≡ false) × AreKnown rest
AreKnown (s.Name ∷ rest) = AreKnown rest
AreKnown (s.Number ∷ rest) = AreKnown rest
AreKnown (s.Maker ∷ rest) = AreKnown rest
AreKnown (s.Offset ∷ rest) = rest ≡ then_semicolon

known_ended : (rest : List Shape) → rest ≡ then_semicolon → AreKnown rest
known_ended rest e = subst AreKnown (sym e) (refl, tt)

known_behind : (t : Token) → AreKnown (shapes_behind t)
known_behind the_end = tt
known_behind (sign x) = tt
known_behind (name x) = (refl, (refl, (refl, (refl, tt))))
known_behind (number n) = tt
known_behind (word k.NewTid) = tt
known_behind (word k.NewPhaser) = tt
known_behind (word k.Fork) = (refl, (refl, (refl, tt)))
known_behind (word k.Reg) = (refl, (refl, (refl, (refl, tt))))
known_behind (word k.Dereg) = (refl, (refl, (refl, tt)))
known_behind (word k.Adv) = (refl, (refl, (refl, tt)))
known_behind (word k.Await) = (refl, refl)
known_behind (word k.Loop) = (refl, tt)
known_behind (word k.Skip) = (refl, tt)
known_behind (word k.Clock) = tt
known_behind (word k.Async) = tt
known_behind (word k.Finish) = tt
known_behind (word k.Advance) = tt
known_behind (word k.Resume) = tt
known_behind (word k.Drop) = tt

known_offset : (b : Bool) (rest : List Shape) → rest ≡ then_semicolon → AreKnown (cond b (s.Number ∷ s.Sign CloseParen ∷ then_semicolon) rest)
known_offset true rest e = (refl, (refl, tt))
known_offset false rest e = known_ended rest e

pub known_after : (shapes : List Shape) (t : Token) → AreKnown shapes → AreKnown (shapes_after shapes t)
known_after [] t k = known_behind t
known_after (s.Sign x ∷ rest) t k = k.1
known_after (s.Name ∷ rest) t k = k
known_after (s.Number ∷ rest) t k = k
known_after (s.Maker ∷ rest) t k = k
known_after (s.Offset ∷ rest) t k = known_offset _ rest k

-- ---- one step

same_shapes : (xs ys : List m.Shape) (d e : ℕ) → ◌≡◌ {A = Option State} (Some (at xs d)) (Some (at ys e)) → xs ≡ ys
same_shapes xs ys d e h = cc

first_after : (d : ℕ) (t : Token) (ss : List m.Shape) (e : ℕ) → first_step firsts d t ≡ Some (at ss e) → ss ≡ shapes_of (shapes_behind t)
first_after zero the_end ss e h = absurd cc
first_after (suc d) the_end ss e h = absurd cc
first_after zero (sign CloseBrace) ss e h = absurd cc
first_after (suc d) (sign CloseBrace) ss e h = sym (same_shapes [] ss d e h)
first_after d (sign Equals) ss e h = absurd cc
first_after d (sign OpenParen) ss e h = absurd cc
first_after d (sign CloseParen) ss e h = absurd cc
first_after d (sign Comma) ss e h = absurd cc
first_after d (sign Semicolon) ss e h = absurd cc
first_after d (sign OpenBrace) ss e h = absurd cc
first_after d (sign Plus) ss e h = absurd cc
first_after d (sign Minus) ss e h = absurd cc
first_after d (number n) ss e h = absurd cc
first_after d (name x) ss e h = sym (same_shapes _ ss d e h)
first_after d (word k.NewTid) ss e h = absurd cc
first_after d (word k.NewPhaser) ss e h = absurd cc
first_after d (word k.Fork) ss e h = sym (same_shapes _ ss d e h)
first_after d (word k.Reg) ss e h = sym (same_shapes _ ss d e h)
first_after d (word k.Dereg) ss e h = sym (same_shapes _ ss d e h)
first_after d (word k.Adv) ss e h = sym (same_shapes _ ss d e h)
first_after d (word k.Await) ss e h = sym (same_shapes _ ss d e h)
first_after d (word k.Loop) ss e h = sym (same_shapes _ ss d e h)
first_after d (word k.Skip) ss e h = sym (same_shapes _ ss d e h)
first_after d (word k.Clock) ss e h = absurd cc
first_after d (word k.Async) ss e h = absurd cc
first_after d (word k.Finish) ss e h = absurd cc
first_after d (word k.Advance) ss e h = absurd cc
first_after d (word k.Resume) ss e h = absurd cc
first_after d (word k.Drop) ss e h = absurd cc

then_offset : (t : Token) (rest : List Shape) → rest ≡ then_semicolon → then an_offset t (shapes_of rest) ≡ shapes_of (shapes_on s.Offset rest t)
then_offset (sign Plus) rest e = ap (λ x. a_number ∷ a_sign CloseParen ∷ shapes_of x) e
then_offset (sign Minus) rest e = ap (λ x. a_number ∷ a_sign CloseParen ∷ shapes_of x) e
then_offset (sign Equals) rest e = refl
then_offset (sign OpenParen) rest e = refl
then_offset (sign CloseParen) rest e = refl
then_offset (sign Comma) rest e = refl
then_offset (sign Semicolon) rest e = refl
then_offset (sign OpenBrace) rest e = refl
then_offset (sign CloseBrace) rest e = refl
then_offset the_end rest e = refl
then_offset (word x) rest e = refl
then_offset (name x) rest e = refl
then_offset (number n) rest e = refl

then_is : (x : Shape) (rest : List Shape) (t : Token) → AreKnown (x ∷ rest) → then (shape_of x) t (shapes_of rest) ≡ shapes_of (shapes_on x rest t)
then_is (s.Sign y) rest t k = refl
then_is s.Name rest t k = refl
then_is s.Number rest t k = refl
then_is s.Maker rest t k = refl
then_is s.Offset rest t k = then_offset t rest k

-- what is waited for behind a token that the machine takes
pub after_is : (shapes : List Shape) (d : ℕ) (t : Token) (ss : List m.Shape) (e : ℕ) → AreKnown shapes → step firsts (at (shapes_of shapes) d) t ≡ Some (at ss e) →
    ss ≡ shapes_of (shapes_after shapes t)
after_is [] d t ss e k h = first_after d t ss e h
after_is (x ∷ rest) d t ss e k h =
    elim (chosen (fits (shape_of x) t) _ _ _ h) [
      | inl p ↦ sym (same_shapes _ ss (opened t d) e p.1) ∙ then_is x rest t k
      | inr p ↦ absurd (let q = p.1 in cc)
    ]

-- ---- what is wanted is what the machine takes

same_number : (x : Sign) → r.sign_number x ≡ own.sign_key x
same_number Equals = refl
same_number OpenParen = refl
same_number CloseParen = refl
same_number Comma = refl
same_number Semicolon = refl
same_number OpenBrace = refl
same_number CloseBrace = refl
same_number Plus = refl
same_number Minus = refl

taken : (b : Bool) (st : State) → is_some (cond b (Some st) None) ≡ b
taken true st = refl
taken false st = refl

fits_sign : (x : Sign) (t : Token) → fits (a_sign x) t ≡ is_sign x t
fits_sign x (sign y) = ap (λ n. n == r.sign_number x) (same_number y) ∙ ap (λ n. own.sign_key y == n) (same_number x)
fits_sign x the_end = refl
fits_sign x (word y) = refl
fits_sign x (name y) = refl
fits_sign x (number y) = refl

fits_maker : (t : Token) → fits a_maker t ≡ is_wanted w.Maker t
fits_maker (word k.NewTid) = refl
fits_maker (word k.NewPhaser) = refl
fits_maker (word k.Fork) = refl
fits_maker (word k.Reg) = refl
fits_maker (word k.Dereg) = refl
fits_maker (word k.Adv) = refl
fits_maker (word k.Await) = refl
fits_maker (word k.Loop) = refl
fits_maker (word k.Skip) = refl
fits_maker (word k.Clock) = refl
fits_maker (word k.Async) = refl
fits_maker (word k.Finish) = refl
fits_maker (word k.Advance) = refl
fits_maker (word k.Resume) = refl
fits_maker (word k.Drop) = refl
fits_maker the_end = refl
fits_maker (sign x) = refl
fits_maker (name x) = refl
fits_maker (number n) = refl

fits_name : (t : Token) → fits a_name t ≡ is_wanted w.Name t
fits_name the_end = refl
fits_name (sign x) = refl
fits_name (word x) = refl
fits_name (name x) = refl
fits_name (number n) = refl

fits_number : (t : Token) → fits a_number t ≡ is_wanted w.Number t
fits_number the_end = refl
fits_number (sign x) = refl
fits_number (word x) = refl
fits_number (name x) = refl
fits_number (number n) = refl

fits_offset : (two : Bool) (t : Token) → IsTokenOf two t → fits an_offset t ≡ is_wanted (wanted_next two s.Offset) t
fits_offset true the_end of = refl
fits_offset true (word x) of = refl
fits_offset true (name x) of = refl
fits_offset true (number n) of = refl
fits_offset true (sign Equals) of = refl
fits_offset true (sign OpenParen) of = refl
fits_offset true (sign CloseParen) of = refl
fits_offset true (sign Comma) of = refl
fits_offset true (sign Semicolon) of = refl
fits_offset true (sign OpenBrace) of = refl
fits_offset true (sign CloseBrace) of = refl
fits_offset true (sign Plus) of = refl
fits_offset true (sign Minus) of = refl
fits_offset false the_end of = refl
fits_offset false (word x) of = refl
fits_offset false (name x) of = refl
fits_offset false (number n) of = refl
fits_offset false (sign Equals) of = refl
fits_offset false (sign OpenParen) of = refl
fits_offset false (sign CloseParen) of = refl
fits_offset false (sign Comma) of = refl
fits_offset false (sign Semicolon) of = refl
fits_offset false (sign OpenBrace) of = refl
fits_offset false (sign CloseBrace) of = refl
fits_offset false (sign Plus) of = absurd of
fits_offset false (sign Minus) of = absurd of

-- at the front of a statement
begun_word : (d : ℕ) (x : Keyword) → is_some (begun_at d (word_firsts x)) ≡ is_statement_keyword x
begun_word d k.NewTid = refl
begun_word d k.NewPhaser = refl
begun_word d k.Fork = refl
begun_word d k.Reg = refl
begun_word d k.Dereg = refl
begun_word d k.Adv = refl
begun_word d k.Await = refl
begun_word d k.Loop = refl
begun_word d k.Skip = refl
begun_word d k.Clock = refl
begun_word d k.Async = refl
begun_word d k.Finish = refl
begun_word d k.Advance = refl
begun_word d k.Resume = refl
begun_word d k.Drop = refl

or_false : (b : Bool) → b ≡ (b || false)
or_false true = refl
or_false false = refl

first_outside : (t : Token) → is_some (first_step firsts zero t) ≡ is_wanted w.StatementOrEnd t
first_outside the_end = refl
first_outside (sign Equals) = refl
first_outside (sign OpenParen) = refl
first_outside (sign CloseParen) = refl
first_outside (sign Comma) = refl
first_outside (sign Semicolon) = refl
first_outside (sign OpenBrace) = refl
first_outside (sign CloseBrace) = refl
first_outside (sign Plus) = refl
first_outside (sign Minus) = refl
first_outside (word x) = begun_word zero x
first_outside (name x) = refl
first_outside (number n) = refl

first_inside : (d : ℕ) (t : Token) → is_some (first_step firsts (suc d) t) ≡ is_wanted w.StatementOrBrace t
first_inside d the_end = refl
first_inside d (sign Equals) = refl
first_inside d (sign OpenParen) = refl
first_inside d (sign CloseParen) = refl
first_inside d (sign Comma) = refl
first_inside d (sign Semicolon) = refl
first_inside d (sign OpenBrace) = refl
first_inside d (sign CloseBrace) = refl
first_inside d (sign Plus) = refl
first_inside d (sign Minus) = refl
first_inside d (word x) = begun_word (suc d) x ∙ or_false (is_statement_keyword x)
first_inside d (name x) = refl
first_inside d (number n) = refl

-- above 0
abbrev pub is_some_number : ℕ → Bool
is_some_number zero = false
is_some_number (suc n) = true

first_wanted : (d : ℕ) (two is_open : Bool) (t : Token) → is_open ≡ is_some_number d → is_some (first_step firsts d t) ≡ is_wanted (wanted_by two [] is_open) t
first_wanted zero two is_open t e = first_outside t ∙ ap (λ b. is_wanted (wanted_by two [] b) t) (sym e)
first_wanted (suc d) two is_open t e = first_inside d t ∙ ap (λ b. is_wanted (wanted_by two [] b) t) (sym e)

-- the machine takes just what is wanted
pub step_wanted : (two : Bool) (shapes : List Shape) (d : ℕ) (is_open : Bool) (t : Token) → IsTokenOf two t → is_open ≡ is_some_number d →
    is_some (step firsts (at (shapes_of shapes) d) t) ≡ is_wanted (wanted_by two shapes is_open) t
step_wanted two [] d is_open t of e = first_wanted d two is_open t e
step_wanted two (s.Sign x ∷ rest) d is_open t of e = taken (fits (a_sign x) t) _ ∙ fits_sign x t
step_wanted two (s.Name ∷ rest) d is_open t of e = taken (fits a_name t) _ ∙ fits_name t
step_wanted two (s.Number ∷ rest) d is_open t of e = taken (fits a_number t) _ ∙ fits_number t
step_wanted two (s.Maker ∷ rest) d is_open t of e = taken (fits a_maker t) _ ∙ fits_maker t
step_wanted two (s.Offset ∷ rest) d is_open t of e = taken (fits an_offset t) _ ∙ fits_offset two t of

-- what is wanted is a token of the language
wanted_sign : (x : Sign) (t : Token) → is_apart x ≡ false → is_sign x t ≡ true → IsTokenOf false t
wanted_sign Equals (sign Plus) k e = absurd cc
wanted_sign OpenParen (sign Plus) k e = absurd cc
wanted_sign CloseParen (sign Plus) k e = absurd cc
wanted_sign Comma (sign Plus) k e = absurd cc
wanted_sign Semicolon (sign Plus) k e = absurd cc
wanted_sign OpenBrace (sign Plus) k e = absurd cc
wanted_sign CloseBrace (sign Plus) k e = absurd cc
wanted_sign Plus (sign Plus) k e = absurd cc
wanted_sign Minus (sign Plus) k e = absurd cc
wanted_sign Equals (sign Minus) k e = absurd cc
wanted_sign OpenParen (sign Minus) k e = absurd cc
wanted_sign CloseParen (sign Minus) k e = absurd cc
wanted_sign Comma (sign Minus) k e = absurd cc
wanted_sign Semicolon (sign Minus) k e = absurd cc
wanted_sign OpenBrace (sign Minus) k e = absurd cc
wanted_sign CloseBrace (sign Minus) k e = absurd cc
wanted_sign Plus (sign Minus) k e = absurd cc
wanted_sign Minus (sign Minus) k e = absurd cc
wanted_sign x (sign Equals) k e = tt
wanted_sign x (sign OpenParen) k e = tt
wanted_sign x (sign CloseParen) k e = tt
wanted_sign x (sign Comma) k e = tt
wanted_sign x (sign Semicolon) k e = tt
wanted_sign x (sign OpenBrace) k e = tt
wanted_sign x (sign CloseBrace) k e = tt
wanted_sign x the_end k e = tt
wanted_sign x (word y) k e = tt
wanted_sign x (name y) k e = tt
wanted_sign x (number y) k e = tt

pub token_of : (two : Bool) (shapes : List Shape) (is_open : Bool) (t : Token) → AreKnown shapes → is_wanted (wanted_by two shapes is_open) t ≡ true → IsTokenOf two t
token_of true shapes is_open t k e = tt
token_of false [] true (sign Plus) k e = absurd cc
token_of false [] true (sign Minus) k e = absurd cc
token_of false [] false (sign Plus) k e = absurd cc
token_of false [] false (sign Minus) k e = absurd cc
token_of false (s.Sign x ∷ rest) is_open t k e = wanted_sign x t k.0 e
token_of false (s.Name ∷ rest) is_open (sign x) k e = absurd cc
token_of false (s.Number ∷ rest) is_open (sign x) k e = absurd cc
token_of false (s.Maker ∷ rest) is_open (sign x) k e = absurd cc
token_of false (s.Offset ∷ rest) is_open t k e = wanted_sign CloseParen t refl e
token_of false shapes is_open the_end k e = tt
token_of false shapes is_open (word x) k e = tt
token_of false shapes is_open (name x) k e = tt
token_of false shapes is_open (number x) k e = tt
token_of false [] is_open (sign Equals) k e = tt
token_of false [] is_open (sign OpenParen) k e = tt
token_of false [] is_open (sign CloseParen) k e = tt
token_of false [] is_open (sign Comma) k e = tt
token_of false [] is_open (sign Semicolon) k e = tt
token_of false [] is_open (sign OpenBrace) k e = tt
token_of false [] is_open (sign CloseBrace) k e = tt
