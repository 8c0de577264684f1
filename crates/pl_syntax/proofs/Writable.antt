-- The tree of a text can be printed: its names are names, and its numbers are numbers.
use Rattle.std.proofs.Common.{cond, subst, sym, ◌==◌, ◌∙◌, ◌≡◌, ℕ, ◌≤◌, ◌&&◌, Bool, true, false, List, [], ◌∷◌, length, take, Option, Some, None, Result, Ok, Err, refl, ap, arith, nat_le, inl, inr}
use Rattle.std.specs.List.{list_any, list_all}
use Rattle.std.proofs.lemmas.Bool.{and_parts, false≢true}
use Rattle.std.proofs.lemmas.Bool.Decides.{nat_tests}
use Rattle.pl_syntax.specs.declared.scan.Language.{Language}
use Rattle.pl_syntax.specs.declared.scan.Language.TheVariants.{Phasers}
use Rattle.pl_syntax.specs.declared.scan.Scan.{Scan}
use Rattle.pl_syntax.specs.declared.limits.TheConstants.{MAX_DIGITS, MAX_NUMBER}
use Rattle.pl_syntax.specs.declared.fault.TheConstants.{NO_TOKEN, NO_NUMBER}
use Rattle.armus_base.specs.declared.offset.Offset.TheVariants.{Ahead, Back, Here}
use Rattle.pl_syntax.specs.declared.tree.Program.{Program}
use Rattle.pl_syntax.specs.declared.token.Keyword.{Keyword}
use Rattle.pl_syntax.specs.declared.token.Sign.{Sign}
use Rattle.pl_syntax.specs.declared.token.Sign.TheVariants.{CloseBrace, Minus, Plus}
use Rattle.pl_syntax.specs.calls.Words.{IsName, IsNameIn}
use Rattle.pl_syntax.specs.Words.{is_word_byte, is_digit, keyword_in, has_no_leading_zero, is_number, number_of, value_from}
use Rattle.pl_syntax.specs.Tokens.{Token, the_end, sign, word, name, number, front, after_gap, token_here, word_token, letters_token, digits_token, sign_token, sign_of, word_of, Leads}
use Rattle.pl_syntax.specs.Tree.{Tree, done, plain, fork, loop, Plain, new_task, new_phaser, reg, dereg, adv, await, skip}
use Rattle.pl_syntax.specs.calls.Tree.{AllHere, PlainIsHere}
use Rattle.pl_syntax.specs.Grammar.{tokens, plain_tokens, sentence, scan_of, ReadsTokens, IsText}
use Rattle.pl_syntax.specs.calls.Printed.{PlainIsWritable, TreeIsWritable, IsWritable}
use Rattle.pl_syntax.proofs.Fronts.{chosen, letters_found, name_in_front, ok_pair, was_found, word_is_word}

-- ---- numbers

abbrev Found : Token → Result Token ℕ
Found t = Ok t

abbrev some : ℕ → Option ℕ
some n = Some n

abbrev none : Option ℕ
none = None

-- the token is of letters
abbrev is_letters : Token → Bool
is_letters (word k) = true
is_letters (name x) = true
is_letters t = false

letters_no_number : (w : List ℕ) (o : Option Keyword) (n : ℕ) → letters_token w o ≡ Found (number n) → ⊥
letters_no_number w o n e = false≢true (letters_found is_letters (λ k. refl) (λ x. refl) w o (number n) e)

digits_number : (o : Option ℕ) (n : ℕ) → digits_token o ≡ Found (number n) → o ≡ some n
digits_number None n e = absurd (let q : Err NO_NUMBER ≡ Found (number n) = e in cc)
digits_number (Some m) n e = let q : Found (number m) ≡ Found (number n) = e in let r : m ≡ n = cc in ap some r

some_number : (w : List ℕ) (n : ℕ) → number_of w ≡ some n → n ≤ MAX_NUMBER
some_number w n e =
    elim (chosen (is_number w) (some (value_from 0 w)) none (some n) e) [
      | inr p ↦ absurd (let q = p.1 in cc)
      | inl p ↦
          let v : value_from 0 w ≡ n = (let q = p.1 in cc) in
          let a = and_parts (list_all is_digit w) (has_no_leading_zero w && (nat_le (length w) MAX_DIGITS && nat_le (value_from 0 w) MAX_NUMBER)) p.0 in
          let b = and_parts (has_no_leading_zero w) (nat_le (length w) MAX_DIGITS && nat_le (value_from 0 w) MAX_NUMBER) a.1 in
          let c = and_parts (nat_le (length w) MAX_DIGITS) (nat_le (value_from 0 w) MAX_NUMBER) b.1 in
          let d = c.1 in
          grind (arith, nat_tests)
    ]

number_of_word : (l : Language) (w : List ℕ) (n : ℕ) → word_token l w ≡ Found (number n) → n ≤ MAX_NUMBER
number_of_word l w n e =
    elim (chosen (list_any is_digit (take 1 w)) _ _ (Found (number n)) e) [
      | inl p ↦ some_number w n (digits_number (number_of w) n p.1)
      | inr p ↦ absurd (letters_no_number w (keyword_in l w) n p.1)
    ]

no_sign : (o : Option Sign) (n : ℕ) → sign_token o ≡ Found (number n) → ⊥
no_sign None n e = let q : Err NO_TOKEN ≡ Found (number n) = e in cc
no_sign (Some s) n e = let q : Found (sign s) ≡ Found (number n) = e in cc

number_here : (scan : Scan) (text : List ℕ) (n : ℕ) (rest : List ℕ) → token_here scan text ≡ Ok (number n, rest) → n ≤ MAX_NUMBER
number_here scan [] n rest e = let h : the_end ≡ number n = (ok_pair (the_end, []) (number n, rest) e).0 in absurd cc
number_here scan (b ∷ bs) n rest e =
    elim (chosen (is_word_byte b) _ _ _ e) [
      | inl p ↦ number_of_word scan.language (word_of (b ∷ bs)) n (was_found _ _ _ (number n) rest p.1).0
      | inr p ↦ absurd (no_sign (sign_of scan.offsets b) n (was_found _ _ _ (number n) rest p.1).0)
    ]

-- a token that is a number is small enough
number_in_front : (scan : Scan) (text : List ℕ) (n : ℕ) (rest : List ℕ) → front scan text ≡ Ok (number n, rest) → n ≤ MAX_NUMBER
unfolding front
number_in_front scan text n rest e = number_here scan (after_gap text) n rest e

-- ---- signs of PL 2

-- + or -
abbrev is_far : Option Sign → Bool
is_far (Some Plus) = true
is_far (Some Minus) = true
is_far o = false

cond_near : (c : Bool) (x y : Option Sign) → is_far x ≡ false → is_far y ≡ false → is_far (cond c x y) ≡ false
cond_near true x y p q = p
cond_near false x y p q = q

near_sign : (b : ℕ) → is_far (sign_of false b) ≡ false
near_sign b =
    cond_near (b == 61) _ _ refl (cond_near (b == 40) _ _ refl (cond_near (b == 41) _ _ refl (cond_near (b == 44) _ _ refl
    (cond_near (b == 59) _ _ refl (cond_near (b == 123) _ _ refl (cond_near (b == 125) _ _ refl
    (cond_near (b == 43) _ _ refl (cond_near (b == 45) _ _ refl refl))))))))

sign_token_is : (o : Option Sign) (s : Sign) → sign_token o ≡ Found (sign s) → o ≡ Some s
sign_token_is None s e = absurd (let q : Err NO_TOKEN ≡ Found (sign s) = e in cc)
sign_token_is (Some r) s e = let q : Found (sign r) ≡ Found (sign s) = e in let h : r ≡ s = cc in ap (λ (x : Sign). Some x) h

near_here : (scan : Scan) (text : List ℕ) (s : Sign) (rest : List ℕ) → scan.offsets ≡ false → token_here scan text ≡ Ok (sign s, rest) → is_far (Some s) ≡ false
near_here scan [] s rest off e = let h : the_end ≡ sign s = (ok_pair (the_end, []) (sign s, rest) e).0 in absurd cc
near_here scan (b ∷ bs) s rest off e =
    elim (chosen (is_word_byte b) _ _ _ e) [
      | inl p ↦ absurd (false≢true (word_is_word scan.language (word_of (b ∷ bs)) (sign s) (was_found _ _ _ (sign s) rest p.1).0))
      | inr p ↦
          let is = sign_token_is (sign_of scan.offsets b) s (was_found _ _ _ (sign s) rest p.1).0 in
          ap is_far (sym is) ∙ ap (λ (o : Bool). is_far (sign_of o b)) off ∙ near_sign b
    ]

-- only in PL 2 are + and - tokens
near_in_front : (scan : Scan) (text : List ℕ) (s : Sign) (rest : List ℕ) → scan.offsets ≡ false → front scan text ≡ Ok (sign s, rest) → is_far (Some s) ≡ false
unfolding front
near_in_front scan text s rest off e = near_here scan (after_gap text) s rest off e

-- ---- trees

-- a token of PL that is a name is a name of PL
pl_name : (scan : Scan) → scan.language ≡ Phasers → (text w rest : List ℕ) → front scan text ≡ Ok (name w, rest) → IsName w
pl_name scan pl text w rest e = subst (λ (l : Language). IsNameIn l w) pl (name_in_front scan text w rest e)

-- an await that looks back or ahead
far_is_writable : (scan : Scan) → scan.language ≡ Phasers → (x : List ℕ) (s : Sign) (k : ℕ) (text : List ℕ) (a b c d : Token) (us : List Token) (end : List ℕ) →
    is_far (Some s) ≡ true → Leads scan text (a ∷ b ∷ name x ∷ sign s ∷ number k ∷ c ∷ d ∷ us) end →
    (IsName x × (k ≤ MAX_NUMBER)) × (scan.offsets ≡ false → ⊥) × (mid : List ℕ) × Leads scan mid us end
far_is_writable scan pl x s k text a b c d us end far h =
    let u = h.2.2 in
    let v = u.2 in
    let w = v.2 in
    let z = w.2.2 in (
      (pl_name scan pl h.2.0 x u.0 u.1, number_in_front scan v.0 k w.0 w.1),
      λ off. false≢true (sym (near_in_front scan u.0 s v.0 off v.1) ∙ far),
      z.0,
      z.2,
    )

plain_is_writable : (scan : Scan) → scan.language ≡ Phasers → (c : Plain) (text : List ℕ) (us : List Token) (end : List ℕ) → Leads scan text (plain_tokens c us) end
    → PlainIsWritable c × (scan.offsets ≡ false → PlainIsHere c) × (mid : List ℕ) × Leads scan mid us end
plain_is_writable scan pl (new_task x) text us end h = let z = h.2.2.2.2.2 in (pl_name scan pl text x h.0 h.1, λ off. tt, z.0, z.2)
plain_is_writable scan pl (new_phaser x) text us end h = let z = h.2.2.2.2.2 in (pl_name scan pl text x h.0 h.1, λ off. tt, z.0, z.2)
plain_is_writable scan pl (reg x y) text us end h =
    let a = h.2 in
    let b = a.2 in
    let c = b.2 in
    let d = c.2 in
    let z = d.2.2 in
    ((pl_name scan pl a.0 x b.0 b.1, pl_name scan pl c.0 y d.0 d.1), λ off. tt, z.0, z.2)
plain_is_writable scan pl (dereg x) text us end h = let a = h.2 in let b = a.2 in let z = b.2.2 in (pl_name scan pl a.0 x b.0 b.1, λ off. tt, z.0, z.2)
plain_is_writable scan pl (adv x) text us end h = let a = h.2 in let b = a.2 in let z = b.2.2 in (pl_name scan pl a.0 x b.0 b.1, λ off. tt, z.0, z.2)
plain_is_writable scan pl (await x Here) text us end h =
    let a = h.2 in let b = a.2 in let z = b.2.2 in ((pl_name scan pl a.0 x b.0 b.1, tt), λ off. refl, z.0, z.2)
plain_is_writable scan pl (await x (Back k)) text us end h =
    let w = far_is_writable scan pl x Minus k text _ _ _ _ us end refl h in (w.0, λ off. absurd (w.1 off), w.2, w.3)
plain_is_writable scan pl (await x (Ahead k)) text us end h =
    let w = far_is_writable scan pl x Plus k text _ _ _ _ us end refl h in (w.0, λ off. absurd (w.1 off), w.2, w.3)
plain_is_writable scan pl skip text us end h = let z = h.2 in (tt, λ off. tt, z.0, z.2)

pub is_writable : (scan : Scan) → scan.language ≡ Phasers → (p : Tree) (text : List ℕ) (us : List Token) (end : List ℕ) → Leads scan text (tokens p us) end
    → TreeIsWritable p × (scan.offsets ≡ false → AllHere p) × (mid : List ℕ) × Leads scan mid us end
is_writable scan pl done text us end h = (tt, λ off. tt, text, h)
is_writable scan pl (plain c p) text us end h =
    let a = plain_is_writable scan pl c text (tokens p us) end h in
    let b = is_writable scan pl p a.2 us end a.3 in
    ((a.0, b.0), λ off. (a.1 off, b.1 off), b.2, b.3)
is_writable scan pl (fork x i p) text us end h =
    let a = h.2 in
    let b = a.2 in
    let d = b.2.2 in
    let inner = is_writable scan pl i d.0 (sign CloseBrace ∷ tokens p us) end d.2 in
    let z = inner.3 in
    let outer = is_writable scan pl p z.0 us end z.2 in
    ((pl_name scan pl a.0 x b.0 b.1, inner.0, outer.0), λ off. (inner.1 off, outer.1 off), outer.2, outer.3)
is_writable scan pl (loop n i p) text us end h =
    let a = h.2 in
    let d = a.2 in
    let inner = is_writable scan pl i d.0 (sign CloseBrace ∷ tokens p us) end d.2 in
    let z = inner.3 in
    let outer = is_writable scan pl p z.0 us end z.2 in
    ((number_in_front scan h.0 n a.0 a.1, inner.0, outer.0), λ off. (inner.1 off, outer.1 off), outer.2, outer.3)

pub text_is_writable : (text : List ℕ) (p : Program) → IsText text p → IsWritable p
text_is_writable text p h = go p.two refl h.reads
  where
    go : (two : Bool) → p.two ≡ two → ReadsTokens two text (sentence p.body) [] → IsWritable p
    go false e reads =
        let w = is_writable (scan_of false text) refl p.body text (the_end ∷ []) [] reads in
        record { tree = w.0; here = λ one. w.1 refl }
    go true e reads =
        let w = is_writable (scan_of true text) refl p.body reads.0 (the_end ∷ []) [] reads.2 in
        record { tree = w.0; here = λ one. absurd (let q : true ≡ false = sym e ∙ one in cc) }
