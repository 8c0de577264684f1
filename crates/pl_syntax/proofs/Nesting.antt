-- What the machine of a grammar takes to the end is a text of it: what grammars of bodies in braces share.
use Rattle.std.proofs.Common.{◌≡◌, ℕ, zero, suc, ◌+◌, ◌==◌, Bool, true, false, cond, List, [], ◌∷◌, ◌++◌, length, Option, Some, None, refl, sym, ap, subst, ◌∙◌, arith}
use Rattle.std.proofs.lemmas.Bool.Decides.{nat_tests}
use Rattle.pl_syntax.specs.declared.token.Keyword.{Keyword}
use Rattle.pl_syntax.specs.declared.token.Sign.{Sign}
use Rattle.pl_syntax.specs.declared.token.Sign.TheVariants.{Equals, OpenParen, CloseParen, Comma, Semicolon, OpenBrace, CloseBrace, Plus, Minus}
use Rattle.pl_syntax.specs.Tokens.{Token, the_end, sign, word, name, number}
use Rattle.pl_syntax.specs.inside.Reading.{sign_number}
use Rattle.pl_syntax.specs.Grammar.{opened, with_name}
use Rattle.pl_syntax.proofs.Machine.{Shape, a_sign, a_name, a_number, s_end, s_named, s_loop, then, Firsts, State, at, over, fits, begun_at, go, run, run-append, some_front, comes_to_end}

abbrev sign_back : ℕ → Sign
sign_back zero = Equals
sign_back (suc zero) = OpenParen
sign_back (suc (suc zero)) = CloseParen
sign_back (suc (suc (suc zero))) = Comma
sign_back (suc (suc (suc (suc zero)))) = Semicolon
sign_back (suc (suc (suc (suc (suc zero))))) = OpenBrace
sign_back (suc (suc (suc (suc (suc (suc (suc zero))))))) = Plus
sign_back (suc (suc (suc (suc (suc (suc (suc (suc zero)))))))) = Minus
sign_back _ = CloseBrace

back_sign : (s : Sign) → sign_back (sign_number s) ≡ s
back_sign Equals = refl
back_sign OpenParen = refl
back_sign CloseParen = refl
back_sign Comma = refl
back_sign Semicolon = refl
back_sign OpenBrace = refl
back_sign CloseBrace = refl
back_sign Plus = refl
back_sign Minus = refl

pub same_sign : (r s : Sign) → (sign_number r == sign_number s) ≡ true → r ≡ s
same_sign r s e =
    let n : sign_number r ≡ sign_number s = grind (arith, nat_tests) in
    sym (back_sign r) ∙ ap sign_back n ∙ back_sign s

-- what fits
pub fits_sign : (s : Sign) (t : Token) → fits (a_sign s) t ≡ true → t ≡ sign s
fits_sign s (sign r) e = ap sign (same_sign r s e)
fits_sign s the_end e = absurd cc
fits_sign s (word w) e = absurd cc
fits_sign s (name x) e = absurd cc
fits_sign s (number n) e = absurd cc

pub fits_name : (t : Token) → fits a_name t ≡ true → (x : List ℕ) × (t ≡ name x)
fits_name (name x) e = (x, refl)
fits_name (sign r) e = absurd cc
fits_name the_end e = absurd cc
fits_name (word w) e = absurd cc
fits_name (number n) e = absurd cc

pub fits_number : (t : Token) → fits a_number t ≡ true → (n : ℕ) × (t ≡ number n)
fits_number (number n) e = (n, refl)
fits_number (sign r) e = absurd cc
fits_number the_end e = absurd cc
fits_number (word w) e = absurd cc
fits_number (name x) e = absurd cc

-- ---- trees and the tokens before them

module _ (Tree : Type 0) (tokens : Tree → List Token → List Token) where
  -- trees, of which each but the last is closed by a brace, and the last by the end
  abbrev pub close : Tree → List Tree → List Token
  close p [] = tokens p (the_end ∷ [])
  close p (q ∷ qs) = tokens p (sign CloseBrace ∷ close q qs)

  -- tokens that fit, and then trees, of which d are behind the first
  abbrev pub Splits : List Shape → ℕ → List Token → Type 0
  Splits [] d ts = (p : Tree) × (qs : List Tree) × (length qs ≡ d) × (ts ≡ close p qs)
  Splits (s ∷ ss) d [] = ⊥
  Splits (s ∷ ss) d (t ∷ ts) = (fits s t ≡ true) × Splits (then s t ss) (opened t d) ts

  -- a sign that is no brace, and what follows it
  pub sign_off : (s : Sign) (ss : List Shape) (d : ℕ) (ts : List Token) → opened (sign s) d ≡ d → Splits (a_sign s ∷ ss) d ts → (us : List Token) × (ts ≡ sign s ∷ us) × Splits ss d us
  sign_off s ss d [] flat h = absurd h
  sign_off s ss d (t ∷ ts) flat h =
      let e = fits_sign s t h.0 in
      (ts, ap (λ (x : Token). x ∷ ts) e, subst (λ n. Splits ss n ts) (ap (λ (x : Token). opened x d) e ∙ flat) h.1)

  pub brace_off : (ss : List Shape) (d : ℕ) (ts : List Token) → Splits (a_sign OpenBrace ∷ ss) d ts → (us : List Token) × (ts ≡ sign OpenBrace ∷ us) × Splits ss (d + 1) us
  brace_off ss d [] h = absurd h
  brace_off ss d (t ∷ ts) h =
      let e = fits_sign OpenBrace t h.0 in
      (ts, ap (λ (x : Token). x ∷ ts) e, subst (λ n. Splits ss n ts) (ap (λ (x : Token). opened x d) e) h.1)

  pub name_off : (ss : List Shape) (d : ℕ) (ts : List Token) → Splits (a_name ∷ ss) d ts → (x : List ℕ) × (us : List Token) × (ts ≡ name x ∷ us) × Splits ss d us
  name_off ss d [] h = absurd h
  name_off ss d (t ∷ ts) h =
      let e = fits_name t h.0 in
      (e.0, ts, ap (λ (x : Token). x ∷ ts) e.1, subst (λ n. Splits ss n ts) (ap (λ (x : Token). opened x d) e.1) h.1)

  pub number_off : (ss : List Shape) (d : ℕ) (ts : List Token) → Splits (a_number ∷ ss) d ts → (x : ℕ) × (us : List Token) × (ts ≡ number x ∷ us) × Splits ss d us
  number_off ss d [] h = absurd h
  number_off ss d (t ∷ ts) h =
      let e = fits_number t h.0 in
      (e.0, ts, ap (λ (x : Token). x ∷ ts) e.1, subst (λ n. Splits ss n ts) (ap (λ (x : Token). opened x d) e.1) h.1)

  -- a statement without a body, before the trees that follow
  pub before_trees : (make : Tree → Tree) (front : List Token → List Token) (d : ℕ) (ts us : List Token) → ts ≡ front us →
      ((p : Tree) (rest : List Token) → tokens (make p) rest ≡ front (tokens p rest)) → Splits [] d us → Splits [] d ts
  before_trees make front d ts us e same (p, [], n, h) = (make p, [], n, e ∙ ap front h ∙ sym (same p (the_end ∷ [])))
  before_trees make front d ts us e same (p, q ∷ qs, n, h) = (make p, q ∷ qs, n, e ∙ ap front h ∙ sym (same p (sign CloseBrace ∷ close q qs)))

  -- a body and the trees behind it
  pub inner_trees : (d : ℕ) (us : List Token) (make : Tree → Tree → Tree) (front : List Token → List Token)
      → ((b p : Tree) (rest : List Token) → front (tokens b (sign CloseBrace ∷ tokens p rest)) ≡ tokens (make b p) rest)
      → Splits [] (d + 1) us → Splits [] d (front us)
  inner_trees d us make front spelled h = go_in h.0 h.1 h.2 h.3
    where
      go_in : (p : Tree) (qs : List Tree) → length qs ≡ d + 1 → us ≡ close p qs → Splits [] d (front us)
      go_in p [] n e = absurd (omega arith)
      go_in p (q ∷ []) n e = (make p q, [], omega arith, ap front e ∙ spelled p q (the_end ∷ []))
      go_in p (q ∷ r ∷ qs) n e = (make p q, r ∷ qs, omega arith, ap front e ∙ spelled p q (sign CloseBrace ∷ close r qs))

  -- ---- what statements of both languages begin with

  -- `( x ) ;`
  pub named_trees : (make : List ℕ → Tree → Tree) (w : Token) (d : ℕ) (ts : List Token) →
      ((x : List ℕ) (p : Tree) (rest : List Token) → tokens (make x p) rest ≡ w ∷ with_name x (sign Semicolon ∷ tokens p rest)) → Splits s_named d ts → Splits [] d (w ∷ ts)
  named_trees make w d ts spelled h =
      let a = sign_off OpenParen (a_name ∷ a_sign CloseParen ∷ s_end) d ts refl h in
      let b = name_off (a_sign CloseParen ∷ s_end) d a.0 a.2 in
      let e = sign_off CloseParen s_end d b.1 refl b.3 in
      let f = sign_off Semicolon [] d e.0 refl e.2 in
      let all : w ∷ ts ≡ w ∷ with_name b.0 (sign Semicolon ∷ f.0) = cc in
      before_trees (make b.0) (λ us. w ∷ with_name b.0 (sign Semicolon ∷ us)) d (w ∷ ts) f.0 all (spelled b.0) f.2

  -- `;`
  pub skip_trees : (make : Tree → Tree) (w : Token) (d : ℕ) (ts : List Token) →
      ((p : Tree) (rest : List Token) → tokens (make p) rest ≡ w ∷ sign Semicolon ∷ tokens p rest) → Splits s_end d ts → Splits [] d (w ∷ ts)
  skip_trees make w d ts spelled h =
      let a = sign_off Semicolon [] d ts refl h in
      before_trees make (λ us. w ∷ sign Semicolon ∷ us) d (w ∷ ts) a.0 (ap (λ (x : List Token). w ∷ x) a.1) spelled a.2

  -- `k {`, the body, and what is behind it
  pub loop_trees : (make : ℕ → Tree → Tree → Tree) (w : Token) (d : ℕ) (ts : List Token) →
      ((n : ℕ) (b p : Tree) (rest : List Token) → w ∷ number n ∷ sign OpenBrace ∷ tokens b (sign CloseBrace ∷ tokens p rest) ≡ tokens (make n b p) rest) → Splits s_loop d ts →
      Splits [] d (w ∷ ts)
  loop_trees make w d ts spelled h =
      let b = number_off (a_sign OpenBrace ∷ []) d ts h in
      let f = brace_off [] d b.1 b.3 in
      let all : w ∷ ts ≡ w ∷ number b.0 ∷ sign OpenBrace ∷ f.0 = cc in
      subst (λ (x : List Token). Splits [] d x) (sym all) (inner_trees d f.0 (make b.0) (λ us. w ∷ number b.0 ∷ sign OpenBrace ∷ us) (spelled b.0) f.2)

  -- the shapes that a token is followed by
  pub these : (ss : List Shape) (d : ℕ) (ts : List Token) → Splits ss d ts → (a : List Shape) → ◌≡◌ {A = Option (List Shape)} (Some a) (Some ss) → Splits a d ts
  these ss d ts h a e = subst (λ (x : List Shape). Splits x d ts) (same a ss e) h
    where
      same : (a b : List Shape) → ◌≡◌ {A = Option (List Shape)} (Some a) (Some b) → b ≡ a
      same a b e = cc

over_stays : (g : Firsts) (ts : List Token) → run g over ts ≡ Some over → ts ≡ []
over_stays g [] e = refl
over_stays g (t ∷ ts) e = absurd cc

go_on : (b : Bool) (st : State) (f : State → Option State) → go (cond b (Some st) None) f ≡ Some over → (b ≡ true) × (f st ≡ Some over)
go_on true st f e = (refl, e)
go_on false st f e = absurd cc

-- a statement is begun with these shapes
begun_on : (d : ℕ) (o : Option (List Shape)) (f : State → Option State) → go (begun_at d o) f ≡ Some over → (ss : List Shape) × (o ≡ Some ss) × (f (at ss d) ≡ Some over)
begun_on d None f e = absurd cc
begun_on d (Some ss) f e = (ss, refl, e)

-- ---- what the machine takes to the end

-- A grammar: its trees, the empty one, their tokens, and what its statements begin with. The tokens of a statement and trees behind it are trees; and
-- the machine takes the tokens of each tree.
module _
    (g : Firsts) (Tree : Type 0) (tokens : Tree → List Token → List Token) (none : Tree) (no_tokens : (rest : List Token) → tokens none rest ≡ rest)
    (named : (x : List ℕ) (ss : List Shape) → g.by_name ≡ Some ss → (d : ℕ) (ts : List Token) → Splits Tree tokens ss d ts → Splits Tree tokens [] d (name x ∷ ts))
    (worded : (w : Keyword) (ss : List Shape) → g.by_word w ≡ Some ss → (d : ℕ) (ts : List Token) → Splits Tree tokens ss d ts → Splits Tree tokens [] d (word w ∷ ts))
    (runs_whole : (p : Tree) → run g (at [] 0) (tokens p (the_end ∷ [])) ≡ Some over) where
  close_off : (d : ℕ) (ts : List Token) → Splits Tree tokens [] d ts → Splits Tree tokens [] (suc d) (sign CloseBrace ∷ ts)
  close_off d ts h = (none, h.0 ∷ h.1, ap suc h.2, ap (λ (x : List Token). sign CloseBrace ∷ x) h.3 ∙ sym (no_tokens (sign CloseBrace ∷ close Tree tokens h.0 h.1)))

  splits : (ts : List Token) (ss : List Shape) (d : ℕ) → run g (at ss d) ts ≡ Some over → Splits Tree tokens ss d ts
  splits [] [] d e = absurd cc
  splits [] (s ∷ ss) d e = absurd cc
  splits (t ∷ ts) (s ∷ ss) d e =
      let h = go_on (fits s t) (at (then s t ss) (opened t d)) (λ next. run g next ts) e in
      (h.0, splits ts (then s t ss) (opened t d) h.1)
  splits (the_end ∷ ts) [] zero e = (none, [], refl, ap (λ (x : List Token). the_end ∷ x) (over_stays g ts e) ∙ sym (no_tokens (the_end ∷ [])))
  splits (the_end ∷ ts) [] (suc d) e = absurd cc
  splits (sign CloseBrace ∷ ts) [] zero e = absurd cc
  splits (sign CloseBrace ∷ ts) [] (suc d) e = close_off d ts (splits ts [] d e)
  splits (sign Equals ∷ ts) [] d e = absurd cc
  splits (sign OpenParen ∷ ts) [] d e = absurd cc
  splits (sign CloseParen ∷ ts) [] d e = absurd cc
  splits (sign Comma ∷ ts) [] d e = absurd cc
  splits (sign Semicolon ∷ ts) [] d e = absurd cc
  splits (sign OpenBrace ∷ ts) [] d e = absurd cc
  splits (sign Plus ∷ ts) [] d e = absurd cc
  splits (sign Minus ∷ ts) [] d e = absurd cc
  splits (number n ∷ ts) [] d e = absurd cc
  splits (name x ∷ ts) [] d e =
      let b = begun_on d g.by_name (λ next. run g next ts) e in
      named x b.0 b.1 d ts (splits ts b.0 d b.2)
  splits (word w ∷ ts) [] d e =
      let b = begun_on d (g.by_word w) (λ next. run g next ts) e in
      worded w b.0 b.1 d ts (splits ts b.0 d b.2)

  -- the machine comes to the end after a text of the grammar, and after no other tokens
  is_sentence : (ts : List Token) → run g (at [] 0) ts ≡ Some over → (p : Tree) × (ts ≡ tokens p (the_end ∷ []))
  is_sentence ts e = alone (splits ts [] 0 e)
    where
      alone : Splits Tree tokens [] 0 ts → (p : Tree) × (ts ≡ tokens p (the_end ∷ []))
      alone (p, [], n, h) = (p, h)
      alone (p, q ∷ qs, n, h) = absurd (omega arith)

  -- some text begins with these tokens
  abbrev Begun : List Token → Type 0
  Begun ts = (p : Tree) × (more : List Token) × (ts ++ more ≡ tokens p (the_end ∷ []))

  -- tokens begin a text exactly while the machine goes on
  pub begins_while : (ts : List Token) (st : State) → run g (at [] 0) ts ≡ Some st → Begun ts
  begins_while ts st e =
      let c = comes_to_end g st in
      let r : run g (at [] 0) (ts ++ c.0) ≡ Some over = run-append g (at [] 0) ts c.0 ∙ rw e c.1 in
      let p = is_sentence (ts ++ c.0) r in
      (p.0, c.0, p.1)

  pub runs_while : (ts : List Token) → Begun ts → (st : State) × (run g (at [] 0) ts ≡ Some st)
  runs_while ts b =
      some_front (run g (at [] 0) ts) (λ next. run g next b.1) over (sym (run-append g (at [] 0) ts b.1) ∙ ap (run g (at [] 0)) b.2 ∙ runs_whole b.0)
