-- A machine that takes tokens one by one, and goes on exactly while they begin a text of a grammar.
use Rattle.std.proofs.Common.{◌≡◌, ℕ, zero, suc, ◌==◌, Bool, true, false, cond, List, [], ◌∷◌, ◌++◌, Option, Some, None, refl, sym, subst, ◌∙◌, arith, inl, inr}
use Rattle.std.proofs.lemmas.Bool.Decides.{nat_tests}
use Rattle.pl_syntax.specs.declared.token.Keyword.{Keyword}
use Rattle.pl_syntax.specs.declared.token.Keyword.TheVariants as k
use Rattle.pl_syntax.specs.declared.token.Sign.{Sign}
use Rattle.pl_syntax.specs.declared.token.Sign.TheVariants.{Equals, OpenParen, CloseParen, Comma, Semicolon, OpenBrace, CloseBrace, Plus, Minus}
use Rattle.pl_syntax.specs.Tokens.{Token, the_end, sign, word, name, number}
use Rattle.pl_syntax.specs.inside.Reading.{sign_number}
use Rattle.pl_syntax.specs.Grammar.{opened, open_after}
use Rattle.pl_syntax.proofs.Fronts.{chosen}

-- a token that is waited for
pub data Shape : Type 0 where
  a_sign : Sign → Shape
  a_name : Shape
  a_number : Shape
  a_maker : Shape
  an_offset : Shape  -- `)`, `- k )` or `+ k )`
  some_names : Shape  -- `)`, or names with a `,` between each two and `)`
  more_names : Shape  -- `)`, or `,` and more names and `)`

-- the tokens that the statement still waits for, and how many braces are open; or the end has come
pub data State : Type 0 where
  at : List Shape → ℕ → State
  over : State

-- of a grammar: what a statement waits for behind its first token, if it may begin with a name, or with a keyword
pub record Firsts : Type 0 where
  pub by_name : Option (List Shape)
  pub by_word : Keyword → Option (List Shape)

abbrev pub fits : Shape → Token → Bool
fits (a_sign s) (sign r) = sign_number r == sign_number s
fits a_name (name x) = true
fits a_number (number n) = true
fits a_maker (word k.NewTid) = true
fits a_maker (word k.NewPhaser) = true
fits an_offset (sign CloseParen) = true
fits an_offset (sign Minus) = true
fits an_offset (sign Plus) = true
fits some_names (name x) = true
fits some_names (sign CloseParen) = true
fits more_names (sign Comma) = true
fits more_names (sign CloseParen) = true
fits _ _ = false

-- what is waited for behind this token of this shape, where these follow the shape
abbrev pub then : Shape → Token → List Shape → List Shape
then an_offset (sign Minus) ss = a_number ∷ a_sign CloseParen ∷ ss
then an_offset (sign Plus) ss = a_number ∷ a_sign CloseParen ∷ ss
then some_names (name x) ss = more_names ∷ ss
then more_names (sign Comma) ss = a_name ∷ more_names ∷ ss
then s t ss = ss

-- ---- rows of shapes that both grammars have

abbrev pub s_end : List Shape
s_end = a_sign Semicolon ∷ []

abbrev pub s_named : List Shape
s_named = a_sign OpenParen ∷ a_name ∷ a_sign CloseParen ∷ a_sign Semicolon ∷ []

abbrev pub s_loop : List Shape
s_loop = a_number ∷ a_sign OpenBrace ∷ []

-- ---- steps

abbrev pub ends_at : ℕ → Option State
ends_at zero = Some over
ends_at (suc d) = None

abbrev pub closes_at : ℕ → Option State
closes_at zero = None
closes_at (suc d) = Some (at [] d)

-- a statement with these shapes is begun, if there is one
abbrev pub begun_at : ℕ → Option (List Shape) → Option State
begun_at d None = None
begun_at d (Some ss) = Some (at ss d)

-- a token at the front of a statement
abbrev pub first_step : Firsts → ℕ → Token → Option State
first_step g d the_end = ends_at d
first_step g d (sign CloseBrace) = closes_at d
first_step g d (name x) = begun_at d g.by_name
first_step g d (word w) = begun_at d (g.by_word w)
first_step g d _ = None

abbrev pub step : Firsts → State → Token → Option State
step g over t = None
step g (at [] d) t = first_step g d t
step g (at (s ∷ ss) d) t = cond (fits s t) (Some (at (then s t ss) (opened t d))) None

abbrev pub go : Option State → (State → Option State) → Option State
go None f = None
go (Some st) f = f st

abbrev pub run : Firsts → State → List Token → Option State
run g st [] = Some st
run g st (t ∷ ts) = go (step g st t) (λ next. run g next ts)

-- ---- runs in two parts

go_go : (o : Option State) (f g : State → Option State) → go (go o f) g ≡ go o (λ st. go (f st) g)
go_go None f g = refl
go_go (Some st) f g = refl

go_same : (o : Option State) (f g : State → Option State) → ((st : State) → f st ≡ g st) → go o f ≡ go o g
go_same None f g h = refl
go_same (Some st) f g h = h st

pub run-append : (g : Firsts) (st : State) (ts us : List Token) → run g st (ts ++ us) ≡ go (run g st ts) (λ next. run g next us)
run-append g st [] us = refl
run-append g st (t ∷ ts) us =
    go_same (step g st t) (λ next. run g next (ts ++ us)) (λ next. go (run g next ts) (λ last. run g last us)) (λ next. run-append g next ts us)
    ∙ sym (go_go (step g st t) (λ next. run g next ts) (λ last. run g last us))

pub some_front : (o : Option State) (f : State → Option State) (st : State) → go o f ≡ Some st → (mid : State) × (o ≡ Some mid)
some_front None f st e = absurd cc
some_front (Some mid) f st e = (mid, refl)

-- ---- each state can come to the end

completes : (g : Firsts) (ss : List Shape) (d : ℕ) → (more : List Token) × (run g (at ss d) more ≡ Some over)
completes g [] zero = (the_end ∷ [], refl)
completes g [] (suc d) = let c = completes g [] d in (sign CloseBrace ∷ c.0, c.1)
completes g (a_sign s ∷ ss) d = let c = completes g ss (opened (sign s) d) in (sign s ∷ c.0, rw (same_sign s) c.1)
  where
    same_sign : (s : Sign) → (sign_number s == sign_number s) ≡ true
    same_sign s = grind (arith, nat_tests)
completes g (a_name ∷ ss) d = let c = completes g ss d in (name [] ∷ c.0, c.1)
completes g (a_number ∷ ss) d = let c = completes g ss d in (number 0 ∷ c.0, c.1)
completes g (a_maker ∷ ss) d = let c = completes g ss d in (word k.NewTid ∷ c.0, c.1)
completes g (an_offset ∷ ss) d = let c = completes g ss d in (sign CloseParen ∷ c.0, c.1)
completes g (some_names ∷ ss) d = let c = completes g ss d in (sign CloseParen ∷ c.0, c.1)
completes g (more_names ∷ ss) d = let c = completes g ss d in (sign CloseParen ∷ c.0, c.1)

pub comes_to_end : (g : Firsts) (st : State) → (more : List Token) × (run g st more ≡ Some over)
comes_to_end g (at ss d) = completes g ss d
comes_to_end g over = ([], refl)

-- ---- how many braces are open

some_at : (ss : List Shape) (d : ℕ) (us : List Shape) (n : ℕ) → ◌≡◌ {A = Option State} (Some (at ss d)) (Some (at us n)) → d ≡ n
some_at ss d us n e = cc

begun_depth : (o : Option (List Shape)) (d : ℕ) (us : List Shape) (n : ℕ) → begun_at d o ≡ Some (at us n) → d ≡ n
begun_depth None d us n e = absurd cc
begun_depth (Some ss) d us n e = some_at ss d us n e

first_depth : (g : Firsts) (d : ℕ) (t : Token) (us : List Shape) (n : ℕ) → first_step g d t ≡ Some (at us n) → opened t d ≡ n
first_depth g zero the_end us n e = absurd cc
first_depth g (suc d) the_end us n e = absurd cc
first_depth g zero (sign CloseBrace) us n e = absurd cc
first_depth g (suc d) (sign CloseBrace) us n e = let q = some_at [] d us n e in omega arith
first_depth g d (name x) us n e = begun_depth g.by_name d us n e
first_depth g d (word w) us n e = begun_depth (g.by_word w) d us n e
first_depth g d (number x) us n e = absurd cc
first_depth g d (sign Equals) us n e = absurd cc
first_depth g d (sign OpenParen) us n e = absurd cc
first_depth g d (sign CloseParen) us n e = absurd cc
first_depth g d (sign Comma) us n e = absurd cc
first_depth g d (sign Semicolon) us n e = absurd cc
first_depth g d (sign OpenBrace) us n e = absurd cc
first_depth g d (sign Plus) us n e = absurd cc
first_depth g d (sign Minus) us n e = absurd cc

step_depth : (g : Firsts) (ss : List Shape) (d : ℕ) (t : Token) (us : List Shape) (n : ℕ) → step g (at ss d) t ≡ Some (at us n) → opened t d ≡ n
step_depth g [] d t us n e = first_depth g d t us n e
step_depth g (s ∷ ss) d t us n e =
    elim (chosen (fits s t) (Some (at (then s t ss) (opened t d))) None (Some (at us n)) e) [
      | inl p ↦ some_at (then s t ss) (opened t d) us n p.1
      | inr p ↦ absurd (let q = p.1 in cc)
    ]

over_not : (g : Firsts) (ts : List Token) (us : List Shape) (n : ℕ) → run g over ts ≡ Some (at us n) → ⊥
over_not g [] us n e = cc
over_not g (t ∷ ts) us n e = cc

pub depth_is : (g : Firsts) (ts : List Token) (ss : List Shape) (d : ℕ) (us : List Shape) (n : ℕ) → run g (at ss d) ts ≡ Some (at us n) → open_after d ts ≡ n
depth_is g [] ss d us n e = some_at ss d us n e
depth_is g (t ∷ ts) ss d us n e =
    let m = some_front (step g (at ss d) t) (λ next. run g next ts) (at us n) e in
    on m.0 m.1 (let h : go (Some m.0) (λ next. run g next ts) ≡ Some (at us n) = rw m.1 at e in h)
    (λ us' n' h. depth_is g ts us' n' us n h)
  where
    on : (mid : State) → step g (at ss d) t ≡ Some mid → run g mid ts ≡ Some (at us n) →
        ((us' : List Shape) (n' : ℕ) → run g (at us' n') ts ≡ Some (at us n) → open_after n' ts ≡ n) → open_after (opened t d) ts ≡ n
    on (at us' n') s h rec = subst (λ x. open_after x ts ≡ n) (sym (step_depth g ss d t us' n' s)) (rec us' n' h)
    on over s h rec = absurd (over_not g ts us n h)
