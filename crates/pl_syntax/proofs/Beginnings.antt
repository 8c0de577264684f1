-- The statements of a tree begin where the reader of offsets finds them.
use Rattle.std.proofs.Common.{◌≡◌, ℕ, Bool, true, false, if◌then◌else◌, List, [], ◌∷◌, ◌++◌, Ok, refl, sym, ap, subst, ◌∙◌, append_assoc, append-nil}
use Rattle.std.specs.List.{AllZip}
use Rattle.armus_base.specs.declared.offset.Offset.TheVariants.{Ahead, Back, Here}
use Rattle.armus_base.proofs.Elements.{AllZip-append}
use Rattle.pl_syntax.specs.declared.scan.Scan.{Scan}
use Rattle.pl_syntax.specs.declared.token.Sign.TheVariants.{CloseBrace}
use Rattle.pl_syntax.specs.declared.tree.Program.{Program}
use Rattle.pl_syntax.specs.Tokens.{Token, the_end, sign, word, name, number, front, place, Leads}
use Rattle.pl_syntax.specs.Tree.{Tree, done, plain, fork, loop, Plain, new_task, new_phaser, reg, dereg, adv, await, skip}
use Rattle.pl_syntax.specs.Grammar.{ReadsTokens, header, plain_tokens, scan_of, sentence, tokens}
use Rattle.pl_syntax.specs.StatementOffsets.{AreOffsets, BeginAt, statement_tokens}
use Rattle.pl_syntax.specs.inside.Beginnings.{begins_statement, beginnings, is_boundary, with_offset}
use Rattle.pl_syntax.proofs.Fronts.{ok_pair}
use Rattle.pl_syntax.proofs.Leaves.{Leads-append}

-- ---- trees

plain_begins : (s : Plain) (ts : List Token) → beginnings true (plain_tokens s ts) ≡ plain_tokens s ts ∷ beginnings true ts
plain_begins (new_task x) ts = refl
plain_begins (new_phaser x) ts = refl
plain_begins (reg x y) ts = refl
plain_begins (dereg x) ts = refl
plain_begins (adv x) ts = refl
plain_begins (await x Here) ts = refl
plain_begins (await x (Back k)) ts = refl
plain_begins (await x (Ahead k)) ts = refl
plain_begins skip ts = refl

-- a body's tokens, and those behind it
abbrev in_braces : Tree → Tree → List Token → List Token
in_braces body more ts = tokens body (sign CloseBrace ∷ tokens more ts)

-- in a body and the statements behind it, by what holds of both
body_begins : (body more : Tree) (ts : List Token) →
    beginnings true (in_braces body more ts) ≡ statement_tokens body (sign CloseBrace ∷ tokens more ts) ++ beginnings true (tokens more ts) →
    beginnings true (tokens more ts) ≡ statement_tokens more ts ++ beginnings true ts →
    beginnings true (in_braces body more ts) ≡ (statement_tokens body (sign CloseBrace ∷ tokens more ts) ++ statement_tokens more ts) ++ beginnings true ts
body_begins body more ts inside behind =
    inside ∙ (ap (λ l. statement_tokens body (sign CloseBrace ∷ tokens more ts) ++ l) behind
    ∙ sym (append_assoc (statement_tokens body (sign CloseBrace ∷ tokens more ts)) (statement_tokens more ts) (beginnings true ts)))

-- in a tree's tokens, and in those behind them
tree_begins : (p : Tree) (ts : List Token) → beginnings true (tokens p ts) ≡ statement_tokens p ts ++ beginnings true ts
tree_begins done ts = refl
tree_begins (plain s more) ts = plain_begins s (tokens more ts) ∙ ap (λ l. plain_tokens s (tokens more ts) ∷ l) (tree_begins more ts)
tree_begins (fork x body more) ts =
    ap (λ l. tokens (fork x body more) ts ∷ l) (body_begins body more ts (tree_begins body (sign CloseBrace ∷ tokens more ts)) (tree_begins more ts))
tree_begins (loop k body more) ts =
    ap (λ l. tokens (loop k body more) ts ∷ l) (body_begins body more ts (tree_begins body (sign CloseBrace ∷ tokens more ts)) (tree_begins more ts))

-- of a whole text
pub sentence_begins : (p : Tree) → beginnings true (sentence p) ≡ statement_tokens p (the_end ∷ [])
sentence_begins p = tree_begins p (the_end ∷ []) ∙ append-nil (statement_tokens p (the_end ∷ []))

-- ---- offsets

-- with or without one more
abbrev pub with_statement : Bool → List Token → List (List Token) → List (List Token)
with_statement begins own found = if begins then found ++ own ∷ [] else found

pub begun_with : (text : List ℕ) (p : Program) (begins : Bool) (found : List (List Token)) (offsets : List ℕ) (own : List Token) (offset : ℕ) →
    AllZip (BeginAt text p) found offsets → BeginAt text p own offset → AllZip (BeginAt text p) (with_statement begins own found) (with_offset begins offset offsets)
begun_with text p true found offsets own offset all one = AllZip-append (BeginAt text p) found (own ∷ []) offsets (offset ∷ []) all (one, tt)
begun_with text p false found offsets own offset all one = all

pub whole_with : (begins : Bool) (own : List Token) (found more : List (List Token)) →
    found ++ (if begins then own ∷ more else more) ≡ with_statement begins own found ++ more
whole_with true own found more = sym (append_assoc found (own ∷ []) more)
whole_with false own found more = refl

pub end_begins_none : (may : Bool) → begins_statement may the_end ≡ false
end_begins_none true = refl
end_begins_none false = refl

none_at_end : (may : Bool) → beginnings may (the_end ∷ []) ≡ []
none_at_end true = refl
none_at_end false = refl

pub cons_is : (u : Token) (us : List Token) → u ≡ the_end → us ≡ [] → u ∷ us ≡ the_end ∷ []
cons_is u us a b = cc

-- ---- reading

-- tokens that were read, and one more
pub reads_more : (two : Bool) (text : List ℕ) (ts : List Token) (rest : List ℕ) (t : Token) (after : List ℕ) → ReadsTokens two text ts rest →
    front (scan_of two text) rest ≡ Ok (t, after) → ReadsTokens two text (ts ++ t ∷ []) after
reads_more false text ts rest t after reads here = Leads-append (scan_of false text) text ts rest (t ∷ []) after reads (after, here, refl)
reads_more true text ts rest t after (mid, ahead, reads) here =
    (mid, ahead, Leads-append (scan_of true text) mid ts rest (t ∷ []) after reads (after, here, refl))

-- behind the first of the tokens that are read stand the others
pub leads_behind : (scan : Scan) (text : List ℕ) (t : Token) (ts : List Token) (rest : List ℕ) (u : Token) (after : List ℕ) → Leads scan text (t ∷ ts) rest →
    front scan text ≡ Ok (u, after) → Leads scan after ts rest
leads_behind scan text t ts rest u after (mid, here, more) there =
    subst (λ x. Leads scan x ts rest) (ok_pair (t, mid) (u, after) (sym here ∙ there)).1 more

-- the same tokens leave the same
pub one_rest : (scan : Scan) (text : List ℕ) (ts : List Token) (a b : List ℕ) → Leads scan text ts a → Leads scan text ts b → a ≡ b
one_rest scan text [] a b p q = sym p ∙ q
one_rest scan text (t ∷ ts) a b (m, here, p) (n, there, q) =
    let same : m ≡ n = (ok_pair (t, m) (t, n) (sym here ∙ there)).1 in
    one_rest scan n ts a b (subst (λ x. Leads scan x ts a) same p) q

pub one_rest_of_text : (two : Bool) (text : List ℕ) (ts : List Token) (a b : List ℕ) → ReadsTokens two text ts a → ReadsTokens two text ts b → a ≡ b
one_rest_of_text false text ts a b p q = one_rest (scan_of false text) text ts a b p q
one_rest_of_text true text ts a b (m, ahead, p) (n, before, q) =
    let same : m ≡ n = one_rest (scan_of false text) text header m n ahead before in
    one_rest (scan_of true text) n ts a b (subst (λ x. Leads (scan_of true text) x ts a) same p) q

-- in a text of PL 2 the body stands behind the header
pub two_body : (two : Bool) (text : List ℕ) (p : Tree) → two ≡ true → ReadsTokens two text (sentence p) [] →
    (body : List ℕ) × Leads (scan_of false text) text header body × (ReadsTokens two text [] body × Leads (scan_of two text) body (sentence p) [])
two_body true text p is (mid, ahead, reads) = (mid, ahead, ((mid, ahead, refl), reads))
two_body false text p is reads = absurd cc

-- ---- the end

-- the end stands last, and there alone
abbrev pub EndsOnce : List Token → Type 0
EndsOnce [] = ⊥
EndsOnce (the_end ∷ ts) = ts ≡ []
EndsOnce (sign s ∷ ts) = EndsOnce ts
EndsOnce (word k ∷ ts) = EndsOnce ts
EndsOnce (name x ∷ ts) = EndsOnce ts
EndsOnce (number k ∷ ts) = EndsOnce ts

plain_ends : (s : Plain) (ts : List Token) → EndsOnce ts → EndsOnce (plain_tokens s ts)
plain_ends (new_task x) ts e = e
plain_ends (new_phaser x) ts e = e
plain_ends (reg x y) ts e = e
plain_ends (dereg x) ts e = e
plain_ends (adv x) ts e = e
plain_ends (await x Here) ts e = e
plain_ends (await x (Back k)) ts e = e
plain_ends (await x (Ahead k)) ts e = e
plain_ends skip ts e = e

pub tree_ends : (p : Tree) (ts : List Token) → EndsOnce ts → EndsOnce (tokens p ts)
tree_ends done ts e = e
tree_ends (plain s more) ts e = plain_ends s (tokens more ts) (tree_ends more ts e)
tree_ends (fork x body more) ts e = tree_ends body (sign CloseBrace ∷ tokens more ts) (tree_ends more ts e)
tree_ends (loop k body more) ts e = tree_ends body (sign CloseBrace ∷ tokens more ts) (tree_ends more ts e)

pub ends_behind : (t : Token) (ts : List Token) → EndsOnce (t ∷ ts) → (t ≡ the_end → ⊥) → EndsOnce ts
ends_behind the_end ts e not_end = absurd (not_end refl)
ends_behind (sign s) ts e not_end = e
ends_behind (word k) ts e not_end = e
ends_behind (name x) ts e not_end = e
ends_behind (number k) ts e not_end = e

pub ends_here : (t : Token) (ts : List Token) → EndsOnce (t ∷ ts) → t ≡ the_end → ts ≡ []
ends_here the_end ts e same = e
ends_here (sign s) ts e same = absurd cc
ends_here (word k) ts e same = absurd cc
ends_here (name x) ts e same = absurd cc
ends_here (number k) ts e same = absurd cc

-- ---- the reader's loop

-- these offsets are those of the statements before the tokens that are left, and what begins in these is left to be found
pub record Noted (text : List ℕ) (p : Program) (offsets : List ℕ) (may : Bool) (left : List Token) : Type 0 where
  pub found : List (List Token)
  pub begun : AllZip (BeginAt text p) found offsets
  pub whole : found ++ beginnings may left ≡ statement_tokens p.body (the_end ∷ [])

-- what was read, what was found there, and what is left to be read
pub record Sought (text : List ℕ) (p : Program) (offsets : List ℕ) (may : Bool) (rest : List ℕ) : Type 0 where
  pub ahead : List Token
  pub left : List Token
  pub all : ahead ++ left ≡ sentence p.body
  pub reads : ReadsTokens p.two text ahead rest
  pub goes_on : Leads (scan_of p.two text) rest left []
  pub noted : Noted text p offsets may left
  pub ends : EndsOnce left

-- before the first token
pub sought_first : (text : List ℕ) (p : Program) (body : List ℕ) → ReadsTokens p.two text [] body → Leads (scan_of p.two text) body (sentence p.body) [] →
    Sought text p [] true body
sought_first text p body header reads = record {
  ahead = [];
  left = sentence p.body;
  all = refl;
  reads = header;
  goes_on = reads;
  noted = record { found = []; begun = tt; whole = sentence_begins p.body };
  ends = tree_ends p.body (the_end ∷ []) refl;
}

module _ (text : List ℕ) (p : Program) (rest : List ℕ) where
  -- a token is next
  pub sought_some : (offsets : List ℕ) (may : Bool) → Sought text p offsets may rest →
      (t : Token) × (after : List ℕ) × (front (scan_of p.two text) rest ≡ Ok (t, after))
  sought_some offsets may s = some_of s.left s.ends s.goes_on
    where
      some_of : (ts : List Token) → EndsOnce ts → Leads (scan_of p.two text) rest ts [] →
          (t : Token) × (after : List ℕ) × (front (scan_of p.two text) rest ≡ Ok (t, after))
      some_of [] e l = absurd e
      some_of (t ∷ ts) e (after, here, l) = (t, after, here)

  -- behind the next token; a statement is noted where one begins
  pub sought_on : (offsets : List ℕ) (may : Bool) (t : Token) (after : List ℕ) → Sought text p offsets may rest →
      front (scan_of p.two text) rest ≡ Ok (t, after) → (t ≡ the_end → ⊥) →
      Sought text p (with_offset (begins_statement may t) (place (scan_of p.two text) rest) offsets) (is_boundary t) after
  sought_on offsets may t after s here not_end = go_on s.left s.all s.goes_on s.noted.whole s.ends
    where
      go_on : (ts : List Token) → s.ahead ++ ts ≡ sentence p.body → Leads (scan_of p.two text) rest ts [] →
          s.noted.found ++ beginnings may ts ≡ statement_tokens p.body (the_end ∷ []) → EndsOnce ts →
          Sought text p (with_offset (begins_statement may t) (place (scan_of p.two text) rest) offsets) (is_boundary t) after
      go_on [] all l whole e = absurd e
      go_on (u ∷ us) all (m, there, l) whole e =
          let same = ok_pair (u, m) (t, after) (sym there ∙ here) in
          let offset = place (scan_of p.two text) rest in
          let begins = begins_statement may u in
          let on : Sought text p (with_offset begins offset offsets) (is_boundary u) m = record {
            ahead = s.ahead ++ u ∷ [];
            left = us;
            all = append_assoc s.ahead (u ∷ []) us ∙ all;
            reads = reads_more p.two text s.ahead rest u m s.reads there;
            goes_on = l;
            noted = record {
              found = with_statement begins (u ∷ us) s.noted.found;
              begun = begun_with text p begins s.noted.found offsets (u ∷ us) offset s.noted.begun
                  (record { ahead = s.ahead; left = rest; all = all; reads = s.reads; offset_is = refl });
              whole = sym (whole_with begins (u ∷ us) s.noted.found (beginnings (is_boundary u) us)) ∙ whole;
            };
            ends = ends_behind u us e (λ is. not_end (sym same.0 ∙ is));
          } in
          subst (λ x. Sought text p (with_offset (begins_statement may t) offset offsets) (is_boundary t) x) same.1
          (subst (λ x. Sought text p (with_offset (begins_statement may x) offset offsets) (is_boundary x) m) same.0 on)

  -- at the end all are found
  pub sought_all : (offsets : List ℕ) (may : Bool) (t : Token) (after : List ℕ) → Sought text p offsets may rest →
      front (scan_of p.two text) rest ≡ Ok (t, after) → t ≡ the_end →
      AreOffsets text p (with_offset (begins_statement may t) (place (scan_of p.two text) rest) offsets)
  sought_all offsets may t after s here at_end = find_all s.left s.goes_on s.noted.whole s.ends
    where
      find_all : (ts : List Token) → Leads (scan_of p.two text) rest ts [] →
          s.noted.found ++ beginnings may ts ≡ statement_tokens p.body (the_end ∷ []) → EndsOnce ts →
          AreOffsets text p (with_offset (begins_statement may t) (place (scan_of p.two text) rest) offsets)
      find_all [] l whole e = absurd e
      find_all (u ∷ us) (m, there, l) whole e =
          let same = ok_pair (u, m) (t, after) (sym there ∙ here) in
          let last : u ∷ us ≡ the_end ∷ [] = cons_is u us (same.0 ∙ at_end) (ends_here u us e (same.0 ∙ at_end)) in
          let found_all : s.noted.found ≡ statement_tokens p.body (the_end ∷ []) =
          sym (append-nil s.noted.found) ∙ (ap (λ l. s.noted.found ++ l) (sym (none_at_end may)) ∙ (ap (λ ts. s.noted.found ++ beginnings may ts) (sym last) ∙ whole)) in
          let none : with_offset (begins_statement may t) (place (scan_of p.two text) rest) offsets ≡ offsets =
          ap (λ x. with_offset (begins_statement may x) (place (scan_of p.two text) rest) offsets) at_end
          ∙ ap (λ b. with_offset b (place (scan_of p.two text) rest) offsets) (end_begins_none may) in
          subst (λ x. AreOffsets text p x) (sym none) (subst (λ owns. AllZip (BeginAt text p) owns offsets) found_all s.noted.begun)
