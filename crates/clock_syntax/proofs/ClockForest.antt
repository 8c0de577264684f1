-- What the machine takes to the end is a text of the language of clocks.
use Rattle.std.proofs.Common.{◌≡◌, ℕ, List, [], ◌∷◌, Some, refl, sym, ap, subst, ◌∙◌}
use Rattle.pl_syntax.specs.declared.token.Keyword.{Keyword}
use Rattle.pl_syntax.specs.declared.token.Keyword.TheVariants as k
use Rattle.pl_syntax.specs.declared.token.Sign.TheVariants.{Equals, OpenParen, CloseParen, Comma, Semicolon, OpenBrace, CloseBrace, Plus, Minus}
use Rattle.pl_syntax.specs.Tokens.{Token, the_end, sign, word, name, number}
use Rattle.pl_syntax.proofs.Machine.{Shape, a_name, some_names, more_names, s_end, s_named, s_loop, State, at, run}
use Rattle.pl_syntax.proofs.Nesting as nesting
use Rattle.pl_syntax.proofs.Nesting.{sign_off, brace_off, name_off, before_trees, inner_trees, named_trees, skip_trees, loop_trees, these, begins_while, runs_while}
use Rattle.clock_syntax.specs.Trees.{ClockPlain, clock, advance, resume, drop, skip, ClockTree, done, plain, async, finish, loop}
use Rattle.clock_syntax.specs.Grammar.{names_tokens, clock_plain_tokens, clock_tokens, ClockBegins}
use Rattle.clock_syntax.proofs.ClockBegun.{s_clock, s_body, s_async, clock_words, clock_firsts, run_clock_sentence}

abbrev Splits : List Shape → ℕ → List Token → Type 0
Splits ss d ts = nesting.Splits ClockTree clock_tokens ss d ts

-- ---- statements without a body

before_plain : (c : ClockPlain) (d : ℕ) (ts us : List Token) → ts ≡ clock_plain_tokens c us → Splits [] d us → Splits [] d ts
before_plain c d ts us e h = before_trees ClockTree clock_tokens (plain c) (clock_plain_tokens c) d ts us e (λ p rest. refl) h

clock_of : (d : ℕ) (ts : List Token) → Splits s_clock d ts → Splits [] d (word k.Clock ∷ ts)
clock_of d ts h =
    let b = name_off ClockTree clock_tokens s_end d ts h in
    let f = sign_off ClockTree clock_tokens Semicolon [] d b.1 refl b.3 in
    let all : word k.Clock ∷ ts ≡ clock_plain_tokens (clock b.0) f.0 = cc in
    before_plain (clock b.0) d (word k.Clock ∷ ts) f.0 all f.2

-- ---- names

-- names that stand before these tokens
abbrev Names : List Token → List Token → Type 0
Names ts us = (xs : List (List ℕ)) × (ts ≡ names_tokens xs (sign CloseParen ∷ us))

-- behind a name: `)`, or `,` and more names
abbrev Later : List Token → List Token → Type 0
Later ts us = (x : List ℕ) → Names (name x ∷ ts) us

later_name : (x y : List ℕ) (ts us : List Token) → Names (name y ∷ ts) us → (w : List ℕ) → Names (name w ∷ sign Comma ∷ name y ∷ ts) us
later_name x y ts us ([], e) w = absurd cc
later_name x y ts us (z ∷ [], e) w = (w ∷ z ∷ [], ap (λ (v : List Token). name w ∷ sign Comma ∷ v) e)
later_name x y ts us (z ∷ v ∷ vs, e) w = (w ∷ z ∷ v ∷ vs, ap (λ (v : List Token). name w ∷ sign Comma ∷ v) e)

-- the shapes of names take names
mutual
  later_off : (ss : List Shape) (d : ℕ) (ts : List Token) → Splits (more_names ∷ ss) d ts → (us : List Token) × Later ts us × Splits ss d us
  later_off ss d [] h = absurd h
  later_off ss d (sign CloseParen ∷ ts) h = (ts, λ x. (x ∷ [], refl), h.1)
  later_off ss d (sign Comma ∷ ts) h = comma_off ss d ts h.1
  later_off ss d (sign Equals ∷ ts) h = absurd (let q = h.0 in cc)
  later_off ss d (sign OpenParen ∷ ts) h = absurd (let q = h.0 in cc)
  later_off ss d (sign Semicolon ∷ ts) h = absurd (let q = h.0 in cc)
  later_off ss d (sign OpenBrace ∷ ts) h = absurd (let q = h.0 in cc)
  later_off ss d (sign CloseBrace ∷ ts) h = absurd (let q = h.0 in cc)
  later_off ss d (sign Plus ∷ ts) h = absurd (let q = h.0 in cc)
  later_off ss d (sign Minus ∷ ts) h = absurd (let q = h.0 in cc)
  later_off ss d (the_end ∷ ts) h = absurd (let q = h.0 in cc)
  later_off ss d (word w ∷ ts) h = absurd (let q = h.0 in cc)
  later_off ss d (name x ∷ ts) h = absurd (let q = h.0 in cc)
  later_off ss d (number n ∷ ts) h = absurd (let q = h.0 in cc)

  comma_off : (ss : List Shape) (d : ℕ) (ts : List Token) → Splits (a_name ∷ more_names ∷ ss) d ts → (us : List Token) × Later (sign Comma ∷ ts) us × Splits ss d us
  comma_off ss d [] h = absurd h
  comma_off ss d (name y ∷ ts) h =
      let more = later_off ss d ts h.1 in
      (more.0, λ x. later_name x y ts more.0 (more.1 y) x, more.2)
  comma_off ss d (sign s ∷ ts) h = absurd (let q = h.0 in cc)
  comma_off ss d (the_end ∷ ts) h = absurd (let q = h.0 in cc)
  comma_off ss d (word w ∷ ts) h = absurd (let q = h.0 in cc)
  comma_off ss d (number n ∷ ts) h = absurd (let q = h.0 in cc)

names_off : (ss : List Shape) (d : ℕ) (ts : List Token) → Splits (some_names ∷ ss) d ts →
    (xs : List (List ℕ)) × (us : List Token) × (ts ≡ names_tokens xs (sign CloseParen ∷ us)) × Splits ss d us
names_off ss d [] h = absurd h
names_off ss d (sign CloseParen ∷ ts) h = ([], ts, refl, h.1)
names_off ss d (name x ∷ ts) h = let more = later_off ss d ts h.1 in let all = more.1 x in (all.0, more.0, all.1, more.2)
names_off ss d (sign Equals ∷ ts) h = absurd (let q = h.0 in cc)
names_off ss d (sign OpenParen ∷ ts) h = absurd (let q = h.0 in cc)
names_off ss d (sign Comma ∷ ts) h = absurd (let q = h.0 in cc)
names_off ss d (sign Semicolon ∷ ts) h = absurd (let q = h.0 in cc)
names_off ss d (sign OpenBrace ∷ ts) h = absurd (let q = h.0 in cc)
names_off ss d (sign CloseBrace ∷ ts) h = absurd (let q = h.0 in cc)
names_off ss d (sign Plus ∷ ts) h = absurd (let q = h.0 in cc)
names_off ss d (sign Minus ∷ ts) h = absurd (let q = h.0 in cc)
names_off ss d (the_end ∷ ts) h = absurd (let q = h.0 in cc)
names_off ss d (word w ∷ ts) h = absurd (let q = h.0 in cc)
names_off ss d (number n ∷ ts) h = absurd (let q = h.0 in cc)

-- ---- statements with a body

async_of : (d : ℕ) (ts : List Token) → Splits s_async d ts → Splits [] d (word k.Async ∷ ts)
async_of d ts h =
    let a = sign_off ClockTree clock_tokens OpenParen (some_names ∷ s_body) d ts refl h in
    let b = names_off s_body d a.0 a.2 in
    let f = brace_off ClockTree clock_tokens [] d b.1 b.3 in
    let front : List Token → List Token = (λ us. word k.Async ∷ sign OpenParen ∷ names_tokens b.0 (sign CloseParen ∷ sign OpenBrace ∷ us)) in
    let all : word k.Async ∷ ts ≡ word k.Async ∷ sign OpenParen ∷ names_tokens b.0 (sign CloseParen ∷ sign OpenBrace ∷ f.0) =
    ap (λ (x : List Token). word k.Async ∷ x) a.1 ∙ ap (λ (x : List Token). word k.Async ∷ sign OpenParen ∷ x) b.2
    ∙ ap (λ (x : List Token). word k.Async ∷ sign OpenParen ∷ names_tokens b.0 (sign CloseParen ∷ x)) f.1 in
    subst (λ (x : List Token). Splits [] d x) (sym all)
    (inner_trees ClockTree clock_tokens d f.0 (async b.0) (λ us. word k.Async ∷ sign OpenParen ∷ names_tokens b.0 (sign CloseParen ∷ sign OpenBrace ∷ us)) (λ x p rest. refl) f.2)

finish_of : (d : ℕ) (ts : List Token) → Splits s_body d ts → Splits [] d (word k.Finish ∷ ts)
finish_of d ts h =
    let f = brace_off ClockTree clock_tokens [] d ts h in
    let all : word k.Finish ∷ ts ≡ word k.Finish ∷ sign OpenBrace ∷ f.0 = cc in
    subst (λ (x : List Token). Splits [] d x) (sym all)
    (inner_trees ClockTree clock_tokens d f.0 finish (λ us. word k.Finish ∷ sign OpenBrace ∷ us) (λ x p rest. refl) f.2)

-- ---- any statement

named : (x : List ℕ) (ss : List Shape) → clock_firsts.by_name ≡ Some ss → (d : ℕ) (ts : List Token) → Splits ss d ts → Splits [] d (name x ∷ ts)
named x ss e d ts h = absurd cc

worded : (w : Keyword) (ss : List Shape) → clock_words w ≡ Some ss → (d : ℕ) (ts : List Token) → Splits ss d ts → Splits [] d (word w ∷ ts)
worded k.Clock ss e d ts h = clock_of d ts (these ClockTree clock_tokens ss d ts h s_clock e)
worded k.Advance ss e d ts h = named_trees ClockTree clock_tokens (λ x. plain (advance x)) (word k.Advance) d ts (λ x p rest. refl) (these ClockTree clock_tokens ss d ts h s_named e)
worded k.Resume ss e d ts h = named_trees ClockTree clock_tokens (λ x. plain (resume x)) (word k.Resume) d ts (λ x p rest. refl) (these ClockTree clock_tokens ss d ts h s_named e)
worded k.Drop ss e d ts h = named_trees ClockTree clock_tokens (λ x. plain (drop x)) (word k.Drop) d ts (λ x p rest. refl) (these ClockTree clock_tokens ss d ts h s_named e)
worded k.Skip ss e d ts h = skip_trees ClockTree clock_tokens (plain skip) (word k.Skip) d ts (λ p rest. refl) (these ClockTree clock_tokens ss d ts h s_end e)
worded k.Async ss e d ts h = async_of d ts (these ClockTree clock_tokens ss d ts h s_async e)
worded k.Finish ss e d ts h = finish_of d ts (these ClockTree clock_tokens ss d ts h s_body e)
worded k.Loop ss e d ts h = loop_trees ClockTree clock_tokens loop (word k.Loop) d ts (λ n b p rest. refl) (these ClockTree clock_tokens ss d ts h s_loop e)
worded _ ss e d ts h = absurd cc

-- tokens begin a text exactly while the machine goes on
pub clocks_begin_if : (ts : List Token) (st : State) → run clock_firsts (at [] 0) ts ≡ Some st → ClockBegins ts
clocks_begin_if ts st e = begins_while clock_firsts ClockTree clock_tokens done (λ rest. refl) named worded run_clock_sentence ts st e

pub clocks_run_if : (ts : List Token) → ClockBegins ts → (st : State) × (run clock_firsts (at [] 0) ts ≡ Some st)
clocks_run_if ts b = runs_while clock_firsts ClockTree clock_tokens done (λ rest. refl) named worded run_clock_sentence ts b
