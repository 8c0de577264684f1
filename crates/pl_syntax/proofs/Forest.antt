-- What the machine takes to the end is a text of PL.
use Rattle.std.proofs.Common.{◌≡◌, ℕ, true, List, [], ◌∷◌, Some, refl, sym, ap, subst, ◌∙◌, ◌⊎◌, inl, inr}
use Rattle.armus_base.specs.declared.offset.Offset.{Offset}
use Rattle.armus_base.specs.declared.offset.Offset.TheVariants.{Ahead, Back, Here}
use Rattle.pl_syntax.specs.declared.token.Keyword.{Keyword}
use Rattle.pl_syntax.specs.declared.token.Keyword.TheVariants as k
use Rattle.pl_syntax.specs.declared.token.Sign.{Sign}
use Rattle.pl_syntax.specs.declared.token.Sign.TheVariants.{Equals, OpenParen, CloseParen, Comma, Semicolon, OpenBrace, CloseBrace, Plus, Minus}
use Rattle.pl_syntax.specs.Tokens.{Token, the_end, sign, word, name, number}
use Rattle.pl_syntax.specs.Tree.{Tree, done, plain, fork, loop, Plain, new_task, new_phaser, reg, dereg, adv, await, skip}
use Rattle.pl_syntax.specs.Grammar.{tokens, Begins, opened, offset_tokens, plain_tokens}
use Rattle.pl_syntax.proofs.Machine.{Shape, a_sign, a_name, a_number, a_maker, an_offset, s_end, s_named, s_loop, State, at, run, fits}
use Rattle.pl_syntax.proofs.Begun.{s_drawn, s_pair, s_await, s_fork, firsts, word_firsts, run_sentence}
use Rattle.pl_syntax.proofs.Nesting as nesting
use Rattle.pl_syntax.proofs.Nesting.{sign_off, brace_off, name_off, number_off, before_trees, inner_trees, named_trees, skip_trees, loop_trees, these, begins_while, runs_while}

abbrev Splits : List Shape → ℕ → List Token → Type 0
Splits ss d ts = nesting.Splits Tree tokens ss d ts

abbrev IsMaker : Token → Type 0
IsMaker t = (t ≡ word k.NewTid) ⊎ (t ≡ word k.NewPhaser)

fits_maker : (t : Token) → fits a_maker t ≡ true → IsMaker t
fits_maker (word k.NewTid) e = inl refl
fits_maker (word k.NewPhaser) e = inr refl
fits_maker (word k.Fork) e = absurd cc
fits_maker (word k.Reg) e = absurd cc
fits_maker (word k.Dereg) e = absurd cc
fits_maker (word k.Adv) e = absurd cc
fits_maker (word k.Await) e = absurd cc
fits_maker (word k.Loop) e = absurd cc
fits_maker (word k.Skip) e = absurd cc
fits_maker (word k.Clock) e = absurd cc
fits_maker (word k.Async) e = absurd cc
fits_maker (word k.Finish) e = absurd cc
fits_maker (word k.Advance) e = absurd cc
fits_maker (word k.Resume) e = absurd cc
fits_maker (word k.Drop) e = absurd cc
fits_maker (sign r) e = absurd cc
fits_maker the_end e = absurd cc
fits_maker (name x) e = absurd cc
fits_maker (number n) e = absurd cc

maker_off : (ss : List Shape) (d : ℕ) (ts : List Token) → Splits (a_maker ∷ ss) d ts → (t : Token) × (us : List Token) × (ts ≡ t ∷ us) × IsMaker t × Splits ss d us
maker_off ss d [] h = absurd h
maker_off ss d (t ∷ ts) h =
    let m = fits_maker t h.0 in
    let e : opened t d ≡ d = (elim m [ inl e ↦ ap (λ (x : Token). opened x d) e | inr e ↦ ap (λ (x : Token). opened x d) e ]) in
    (t, ts, refl, m, subst (λ n. Splits ss n ts) e h.1)

-- an offset with its brace
far_off : (way : ℕ → Offset) (s : Sign) (ss : List Shape) (d : ℕ) (ts : List Token) → ((n : ℕ) (us : List Token) → offset_tokens (way n) us ≡ sign s ∷ number n ∷ us) →
    Splits (a_number ∷ a_sign CloseParen ∷ ss) d ts →
    (off : Offset) × (us : List Token) × (sign s ∷ ts ≡ offset_tokens off (sign CloseParen ∷ us)) × Splits ss d us
far_off way s ss d ts spelled h =
    let n = number_off Tree tokens (a_sign CloseParen ∷ ss) d ts h in
    let c = sign_off Tree tokens CloseParen ss d n.1 refl n.3 in (
      way n.0,
      c.0,
      ap (λ (x : List Token). sign s ∷ x) n.2 ∙ ap (λ (x : List Token). sign s ∷ number n.0 ∷ x) c.1 ∙ sym (spelled n.0 (sign CloseParen ∷ c.0)),
      c.2,
    )

offset_off : (ss : List Shape) (d : ℕ) (ts : List Token) → Splits (an_offset ∷ ss) d ts
    → (off : Offset) × (us : List Token) × (ts ≡ offset_tokens off (sign CloseParen ∷ us)) × Splits ss d us
offset_off ss d [] h = absurd h
offset_off ss d (sign CloseParen ∷ ts) h = (Here, ts, refl, h.1)
offset_off ss d (sign Minus ∷ ts) h = far_off Back Minus ss d ts (λ n us. refl) h.1
offset_off ss d (sign Plus ∷ ts) h = far_off Ahead Plus ss d ts (λ n us. refl) h.1
offset_off ss d (sign Equals ∷ ts) h = absurd (let q = h.0 in cc)
offset_off ss d (sign OpenParen ∷ ts) h = absurd (let q = h.0 in cc)
offset_off ss d (sign Comma ∷ ts) h = absurd (let q = h.0 in cc)
offset_off ss d (sign Semicolon ∷ ts) h = absurd (let q = h.0 in cc)
offset_off ss d (sign OpenBrace ∷ ts) h = absurd (let q = h.0 in cc)
offset_off ss d (sign CloseBrace ∷ ts) h = absurd (let q = h.0 in cc)
offset_off ss d (the_end ∷ ts) h = absurd (let q = h.0 in cc)
offset_off ss d (word w ∷ ts) h = absurd (let q = h.0 in cc)
offset_off ss d (name x ∷ ts) h = absurd (let q = h.0 in cc)
offset_off ss d (number n ∷ ts) h = absurd (let q = h.0 in cc)

-- a statement without a body, before the trees that follow
before_plain : (c : Plain) (d : ℕ) (ts us : List Token) → ts ≡ plain_tokens c us → Splits [] d us → Splits [] d ts
before_plain c d ts us e h = before_trees Tree tokens (plain c) (plain_tokens c) d ts us e (λ p rest. refl) h

abbrev t_close : List Shape
t_close = a_sign CloseParen ∷ s_end

abbrev t_open : List Shape
t_open = a_sign OpenParen ∷ t_close

abbrev t_name : List Shape
t_name = a_name ∷ t_close

abbrev t_comma : List Shape
t_comma = a_sign Comma ∷ t_name

abbrev t_first : List Shape
t_first = a_name ∷ t_comma

abbrev t_maker : List Shape
t_maker = a_maker ∷ t_open

abbrev t_brace : List Shape
t_brace = a_sign OpenBrace ∷ []

abbrev t_closed : List Shape
t_closed = a_sign CloseParen ∷ t_brace

abbrev t_forked : List Shape
t_forked = a_name ∷ t_closed

await_of : (d : ℕ) (ts : List Token) → Splits s_await d ts → Splits [] d (word k.Await ∷ ts)
await_of d ts h =
    let a = sign_off Tree tokens OpenParen (a_name ∷ an_offset ∷ s_end) d ts refl h in
    let b = name_off Tree tokens (an_offset ∷ s_end) d a.0 a.2 in
    let o = offset_off s_end d b.1 b.3 in
    let f = sign_off Tree tokens Semicolon [] d o.1 refl o.3 in
    let behind : b.1 ≡ offset_tokens o.0 (sign CloseParen ∷ sign Semicolon ∷ f.0) =
    o.2 ∙ ap (λ (x : List Token). offset_tokens o.0 (sign CloseParen ∷ x)) f.1 in
    let all : word k.Await ∷ ts ≡ plain_tokens (await b.0 o.0) f.0 = cc in
    before_plain (await b.0 o.0) d (word k.Await ∷ ts) f.0 all f.2

pair_of : (d : ℕ) (ts : List Token) → Splits s_pair d ts → Splits [] d (word k.Reg ∷ ts)
pair_of d ts h =
    let a = sign_off Tree tokens OpenParen t_first d ts refl h in
    let b = name_off Tree tokens t_comma d a.0 a.2 in
    let e = sign_off Tree tokens Comma t_name d b.1 refl b.3 in
    let g = name_off Tree tokens t_close d e.0 e.2 in
    let i = sign_off Tree tokens CloseParen s_end d g.1 refl g.3 in
    let f = sign_off Tree tokens Semicolon [] d i.0 refl i.2 in
    let all : word k.Reg ∷ ts ≡ plain_tokens (reg b.0 g.0) f.0 = cc in
    before_plain (reg b.0 g.0) d (word k.Reg ∷ ts) f.0 all f.2

drawn_of : (x : List ℕ) (d : ℕ) (ts : List Token) → Splits s_drawn d ts → Splits [] d (name x ∷ ts)
drawn_of x d ts h =
    let a = sign_off Tree tokens Equals t_maker d ts refl h in
    let m = maker_off t_open d a.0 a.2 in
    let b = sign_off Tree tokens OpenParen t_close d m.1 refl m.4 in
    let e = sign_off Tree tokens CloseParen s_end d b.0 refl b.2 in
    let f = sign_off Tree tokens Semicolon [] d e.0 refl e.2 in
    elim m.3 [
      | inl q ↦ (let all : name x ∷ ts ≡ plain_tokens (new_task x) f.0 = cc in before_plain (new_task x) d (name x ∷ ts) f.0 all f.2)
      | inr q ↦ (let all : name x ∷ ts ≡ plain_tokens (new_phaser x) f.0 = cc in before_plain (new_phaser x) d (name x ∷ ts) f.0 all f.2)
    ]

fork_of : (d : ℕ) (ts : List Token) → Splits s_fork d ts → Splits [] d (word k.Fork ∷ ts)
fork_of d ts h =
    let a = sign_off Tree tokens OpenParen t_forked d ts refl h in
    let b = name_off Tree tokens t_closed d a.0 a.2 in
    let e = sign_off Tree tokens CloseParen t_brace d b.1 refl b.3 in
    let f = brace_off Tree tokens [] d e.0 e.2 in
    let all : word k.Fork ∷ ts ≡ word k.Fork ∷ sign OpenParen ∷ name b.0 ∷ sign CloseParen ∷ sign OpenBrace ∷ f.0 = cc in
    subst (λ (x : List Token). Splits [] d x) (sym all)
    (inner_trees Tree tokens d f.0 (fork b.0) (λ us. word k.Fork ∷ sign OpenParen ∷ name b.0 ∷ sign CloseParen ∷ sign OpenBrace ∷ us) (λ x p rest. refl) f.2)

-- ---- any statement

named : (x : List ℕ) (ss : List Shape) → firsts.by_name ≡ Some ss → (d : ℕ) (ts : List Token) → Splits ss d ts → Splits [] d (name x ∷ ts)
named x ss e d ts h = drawn_of x d ts (these Tree tokens ss d ts h s_drawn e)

worded : (w : Keyword) (ss : List Shape) → word_firsts w ≡ Some ss → (d : ℕ) (ts : List Token) → Splits ss d ts → Splits [] d (word w ∷ ts)
worded k.Reg ss e d ts h = pair_of d ts (these Tree tokens ss d ts h s_pair e)
worded k.Dereg ss e d ts h = named_trees Tree tokens (λ x. plain (dereg x)) (word k.Dereg) d ts (λ x p rest. refl) (these Tree tokens ss d ts h s_named e)
worded k.Adv ss e d ts h = named_trees Tree tokens (λ x. plain (adv x)) (word k.Adv) d ts (λ x p rest. refl) (these Tree tokens ss d ts h s_named e)
worded k.Await ss e d ts h = await_of d ts (these Tree tokens ss d ts h s_await e)
worded k.Skip ss e d ts h = skip_trees Tree tokens (plain skip) (word k.Skip) d ts (λ p rest. refl) (these Tree tokens ss d ts h s_end e)
worded k.Fork ss e d ts h = fork_of d ts (these Tree tokens ss d ts h s_fork e)
worded k.Loop ss e d ts h = loop_trees Tree tokens loop (word k.Loop) d ts (λ n b p rest. refl) (these Tree tokens ss d ts h s_loop e)
worded _ ss e d ts h = absurd cc

-- tokens begin a text exactly while the machine goes on
pub begins_if : (ts : List Token) (st : State) → run firsts (at [] 0) ts ≡ Some st → Begins true ts
begins_if ts st e = begins_while firsts Tree tokens done (λ rest. refl) named worded run_sentence ts st e

pub runs_if : (ts : List Token) → Begins true ts → (st : State) × (run firsts (at [] 0) ts ≡ Some st)
runs_if ts b = runs_while firsts Tree tokens done (λ rest. refl) named worded run_sentence ts b
