-- The braces that are open behind tokens.
use Rattle.std.proofs.Common.{◌≡◌, ℕ, ◌+◌, ◌-◌, ◌<◌, List, [], ◌∷◌, ◌++◌, length, take, refl, sym, ap, subst, ◌∙◌, append_assoc, arith}
use Rattle.std.specs.Prelude.{Bool, reverse, Option, Some, None}
use Rattle.std.proofs.lemmas.List.{length-append, reverse-append, reverse-reverse, take_at}
use Rattle.pl_syntax.specs.declared.token.Sign.TheVariants.{OpenBrace, CloseBrace}
use Rattle.pl_syntax.specs.Tokens.{Token, sign, place}
use Rattle.pl_syntax.specs.Grammar.{ReadsTokens, open_after, opened, scan_of}
use Rattle.pl_syntax.proofs.Beginnings.{one_rest_of_text}
use Rattle.explain_syntax.specs.Stands.{HasBrace, IsBalanced}
use Rattle.explain_syntax.specs.inside.OpenBraces.{AreOpenBraces, first_brace}

pub open_two : (n : ℕ) (ts us : List Token) → open_after n (ts ++ us) ≡ open_after (open_after n ts) us
open_two n [] us = refl
open_two n (t ∷ ts) us = open_two (opened t n) ts us

pub closed_two : (ts us : List Token) → IsBalanced ts → IsBalanced us → IsBalanced (ts ++ us)
closed_two ts us c d = λ n. open_two n ts us ∙ (ap (λ k. open_after k us) (c n) ∙ d n)

pub closed_in_braces : (ts : List Token) → IsBalanced ts → IsBalanced (sign OpenBrace ∷ ts ++ sign CloseBrace ∷ [])
closed_in_braces ts c = λ n. open_two (n + 1) ts (sign CloseBrace ∷ []) ∙ (ap (λ k. k - 1) (c (n + 1)) ∙ omega arith)

-- an open brace is counted
pub one_more : (n : ℕ) (ahead inner : List Token) → IsBalanced inner → open_after n (ahead ++ sign OpenBrace ∷ inner) ≡ open_after n ahead + 1
one_more n ahead inner c = open_two n ahead (sign OpenBrace ∷ inner) ∙ c (open_after n ahead + 1)

module _ (text : List ℕ) (two : Bool) where
  -- what is closed changes nothing
  pub open_on : (ts us : List Token) (braces : List ℕ) → AreOpenBraces text two ts braces → IsBalanced us → AreOpenBraces text two (ts ++ us) braces
  open_on ts us [] a c = closed_two ts us a c
  open_on ts us (at ∷ more) (i, a) c = (
    record {
      ahead = i.ahead;
      inner = i.inner ++ us;
      left = i.left;
      splits = ap (λ l. l ++ us) i.splits ∙ append_assoc i.ahead (sign OpenBrace ∷ i.inner) us;
      closed = closed_two i.inner us i.closed c;
      reads = i.reads;
      at_is = i.at_is;
    },
    a,
  )

  pub open_more : (ts : List Token) (braces left : List ℕ) → AreOpenBraces text two ts braces → ReadsTokens two text ts left →
      AreOpenBraces text two (ts ++ sign OpenBrace ∷ []) (place (scan_of two text) left ∷ braces)
  open_more ts braces left a r = (record { ahead = ts; inner = []; left = left; splits = refl; closed = λ n. refl; reads = r; at_is = refl }, a)

  pub open_less : (ts : List Token) (at : ℕ) (braces : List ℕ) → AreOpenBraces text two ts (at ∷ braces) → AreOpenBraces text two (ts ++ sign CloseBrace ∷ []) braces
  open_less ts at braces (i, a) =
      let all : ts ++ sign CloseBrace ∷ [] ≡ i.ahead ++ (sign OpenBrace ∷ i.inner ++ sign CloseBrace ∷ []) =
      ap (λ l. l ++ sign CloseBrace ∷ []) i.splits ∙ append_assoc i.ahead (sign OpenBrace ∷ i.inner) (sign CloseBrace ∷ []) in
      subst (λ l. AreOpenBraces text two l braces) (sym all) (open_on i.ahead _ braces a (closed_in_braces i.inner i.closed))

  -- the innermost one
  pub innermost : (ts : List Token) (braces : List ℕ) → AreOpenBraces text two ts braces → HasBrace text two ts (first_brace braces)
  innermost ts [] a = a
  innermost ts (at ∷ more) a = a.0

  -- whether one is open
  pub some_open : (ts : List Token) (at : ℕ) (more : List ℕ) → AreOpenBraces text two ts (at ∷ more) → 0 < open_after 0 ts
  some_open ts at more (i, a) = let e = ap (open_after 0) i.splits ∙ one_more 0 i.ahead i.inner i.closed in omega arith

  pub none_open : (ts : List Token) → AreOpenBraces text two ts [] → open_after 0 ts ≡ 0
  none_open ts a = a 0

  -- ---- the innermost brace is one

  same_ahead : (a i b j : List Token) → IsBalanced i → IsBalanced j → a ++ sign OpenBrace ∷ i ≡ b ++ sign OpenBrace ∷ j → a ≡ b
  same_ahead [] i [] j c d e = refl
  same_ahead [] i (x ∷ b) j c d e = absurd (let in_i : i ≡ b ++ sign OpenBrace ∷ j = cc in let n = sym (c 0) ∙ (ap (open_after 0) in_i ∙ one_more 0 b j d) in omega arith)
  same_ahead (x ∷ a) i [] j c d e = absurd (let in_j : a ++ sign OpenBrace ∷ i ≡ j = cc in let n = sym (d 0) ∙ (ap (open_after 0) (sym in_j) ∙ one_more 0 a i c) in omega arith)
  same_ahead (x ∷ a) i (y ∷ b) j c d e =
      let heads : x ≡ y = cc in
      let tails : a ++ sign OpenBrace ∷ i ≡ b ++ sign OpenBrace ∷ j = cc in
      let more = same_ahead a i b j c d tails in
      cc

  pub one_brace : (ts : List Token) (a b : Option ℕ) → HasBrace text two ts a → HasBrace text two ts b → a ≡ b
  one_brace ts None None h k = refl
  one_brace ts None (Some at) h k = absurd (let n = sym (h 0) ∙ (ap (open_after 0) k.splits ∙ one_more 0 k.ahead k.inner k.closed) in omega arith)
  one_brace ts (Some at) None h k = absurd (let n = sym (k 0) ∙ (ap (open_after 0) h.splits ∙ one_more 0 h.ahead h.inner h.closed) in omega arith)
  one_brace ts (Some at) (Some to) h k =
      let same = same_ahead h.ahead h.inner k.ahead k.inner h.closed k.closed (sym h.splits ∙ k.splits) in
      let left = one_rest_of_text two text k.ahead h.left k.left (subst (λ l. ReadsTokens two text l h.left) same h.reads) k.reads in
      ap Some (h.at_is ∙ (ap (place (scan_of two text)) left ∙ sym k.at_is))

-- ---- the stack

-- without its last one
pub popped : (braces : List ℕ) (at : ℕ) (more : List ℕ) → reverse braces ≡ at ∷ more → reverse (take (length braces - 1) braces) ≡ more
popped braces at more e =
    let all : braces ≡ reverse more ++ at ∷ [] = sym (reverse-reverse braces) ∙ (ap reverse e ∙ reverse-append (at ∷ []) more) in
    let many : length (reverse more) ≡ length braces - 1 = (let l = ap length all ∙ length-append (reverse more) (at ∷ []) in omega arith) in
    ap reverse (ap (take (length braces - 1)) all ∙ take_at (reverse more) (at ∷ []) (length braces - 1) many) ∙ reverse-reverse more
