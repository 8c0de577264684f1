-- The closing braces of a text are found where its reader notes them.
use Rattle.std.proofs.Common.{◌≡◌, ℕ, List, [], ◌∷◌, ◌++◌, Ok, refl, sym, ap, subst, ◌∙◌, append_assoc, append-nil}
use Rattle.std.specs.List.{AllZip}
use Rattle.armus_base.specs.declared.offset.Offset.TheVariants.{Ahead, Back, Here}
use Rattle.pl_syntax.specs.declared.token.Sign.TheVariants.{CloseBrace}
use Rattle.pl_syntax.specs.declared.tree.Program.{Program}
use Rattle.pl_syntax.specs.Tokens.{Token, the_end, sign, front, place, Leads}
use Rattle.pl_syntax.specs.Tree.{Tree, done, plain, fork, loop, Plain, new_task, new_phaser, reg, dereg, adv, await, skip}
use Rattle.pl_syntax.specs.Grammar.{ReadsTokens, plain_tokens, scan_of, sentence, tokens}
use Rattle.pl_syntax.specs.StatementOffsets.{BeginAt}
use Rattle.pl_syntax.specs.inside.Beginnings.{with_offset}
use Rattle.pl_syntax.specs.inside.Closings.{brace_tokens, closes, closings}
use Rattle.pl_syntax.proofs.Fronts.{ok_pair}
use Rattle.pl_syntax.proofs.Beginnings.{EndsOnce, begun_with, cons_is, ends_behind, ends_here, reads_more, tree_ends, whole_with, with_statement}

-- ---- trees

plain_closes : (s : Plain) (ts : List Token) → closings (plain_tokens s ts) ≡ closings ts
plain_closes (new_task x) ts = refl
plain_closes (new_phaser x) ts = refl
plain_closes (reg x y) ts = refl
plain_closes (dereg x) ts = refl
plain_closes (adv x) ts = refl
plain_closes (await x Here) ts = refl
plain_closes (await x (Back k)) ts = refl
plain_closes (await x (Ahead k)) ts = refl
plain_closes skip ts = refl

-- a body, its brace, and the statements behind it, by what holds of both
body_closes :
    (body more : Tree) (ts : List Token) →
    closings (tokens body (sign CloseBrace ∷ tokens more ts)) ≡ brace_tokens body (sign CloseBrace ∷ tokens more ts) ++ closings (sign CloseBrace ∷ tokens more ts) →
    closings (tokens more ts) ≡ brace_tokens more ts ++ closings ts →
    closings (tokens body (sign CloseBrace ∷ tokens more ts))
    ≡ (brace_tokens body (sign CloseBrace ∷ tokens more ts) ++ ((sign CloseBrace ∷ tokens more ts) ∷ brace_tokens more ts)) ++ closings ts
body_closes body more ts inside behind =
    inside ∙ (ap (λ l. brace_tokens body (sign CloseBrace ∷ tokens more ts) ++ ((sign CloseBrace ∷ tokens more ts) ∷ l)) behind
    ∙ sym (append_assoc (brace_tokens body (sign CloseBrace ∷ tokens more ts)) ((sign CloseBrace ∷ tokens more ts) ∷ brace_tokens more ts) (closings ts)))

tree_closes : (p : Tree) (ts : List Token) → closings (tokens p ts) ≡ brace_tokens p ts ++ closings ts
tree_closes done ts = refl
tree_closes (plain s more) ts = plain_closes s (tokens more ts) ∙ tree_closes more ts
tree_closes (fork x body more) ts = body_closes body more ts (tree_closes body (sign CloseBrace ∷ tokens more ts)) (tree_closes more ts)
tree_closes (loop k body more) ts = body_closes body more ts (tree_closes body (sign CloseBrace ∷ tokens more ts)) (tree_closes more ts)

sentence_closes : (p : Tree) → closings (sentence p) ≡ brace_tokens p (the_end ∷ [])
sentence_closes p = tree_closes p (the_end ∷ []) ∙ append-nil (brace_tokens p (the_end ∷ []))

-- ---- the reader's loop

-- what was read, which braces were found there, and what is left to be read
pub record Closing (text : List ℕ) (p : Program) (braces : List ℕ) (rest : List ℕ) : Type 0 where
  pub ahead : List Token
  pub left : List Token
  pub found : List (List Token)
  pub all : ahead ++ left ≡ sentence p.body
  pub reads : ReadsTokens p.two text ahead rest
  pub goes_on : Leads (scan_of p.two text) rest left []
  pub begun : AllZip (BeginAt text p) found braces
  pub whole : found ++ closings left ≡ brace_tokens p.body (the_end ∷ [])
  pub ends : EndsOnce left

-- before the first token
pub closing_first :
    (text : List ℕ) (p : Program) (body : List ℕ) → ReadsTokens p.two text [] body → Leads (scan_of p.two text) body (sentence p.body) [] →
    Closing text p [] body
closing_first text p body header reads = record {
  ahead = [];
  left = sentence p.body;
  found = [];
  all = refl;
  reads = header;
  goes_on = reads;
  begun = tt;
  whole = sentence_closes p.body;
  ends = tree_ends p.body (the_end ∷ []) refl;
}

module _ (text : List ℕ) (p : Program) (rest : List ℕ) where
  -- a token is next
  pub closing_some :
      (braces : List ℕ) → Closing text p braces rest → (t : Token) × (after : List ℕ) × (front (scan_of p.two text) rest ≡ Ok (t, after))
  closing_some braces s = some_of s.left s.ends s.goes_on
    where
      some_of :
          (ts : List Token) → EndsOnce ts → Leads (scan_of p.two text) rest ts [] →
          (t : Token) × (after : List ℕ) × (front (scan_of p.two text) rest ≡ Ok (t, after))
      some_of [] e l = absurd e
      some_of (t ∷ ts) e (after, here, l) = (t, after, here)

  -- behind the next token; a brace is noted where it closes a body
  pub closing_on :
      (braces : List ℕ) (t : Token) (after : List ℕ) → Closing text p braces rest → front (scan_of p.two text) rest ≡ Ok (t, after) → (t ≡ the_end → ⊥) →
      Closing text p (with_offset (closes t) (place (scan_of p.two text) rest) braces) after
  closing_on braces t after s here not_end = go_on s.left s.all s.goes_on s.whole s.ends
    where
      go_on :
          (ts : List Token) → s.ahead ++ ts ≡ sentence p.body → Leads (scan_of p.two text) rest ts [] →
          s.found ++ closings ts ≡ brace_tokens p.body (the_end ∷ []) → EndsOnce ts →
          Closing text p (with_offset (closes t) (place (scan_of p.two text) rest) braces) after
      go_on [] all l whole e = absurd e
      go_on (u ∷ us) all (m, there, l) whole e =
          let same = ok_pair (u, m) (t, after) (sym there ∙ here) in
          let offset = place (scan_of p.two text) rest in
          let on : Closing text p (with_offset (closes u) offset braces) m = record {
            ahead = s.ahead ++ u ∷ [];
            left = us;
            found = with_statement (closes u) (u ∷ us) s.found;
            all = append_assoc s.ahead (u ∷ []) us ∙ all;
            reads = reads_more p.two text s.ahead rest u m s.reads there;
            goes_on = l;
            begun = begun_with text p (closes u) s.found braces (u ∷ us) offset s.begun
                (record { ahead = s.ahead; left = rest; all = all; reads = s.reads; offset_is = refl });
            whole = sym (whole_with (closes u) (u ∷ us) s.found (closings us)) ∙ whole;
            ends = ends_behind u us e (λ is. not_end (sym same.0 ∙ is));
          } in
          subst (λ x. Closing text p (with_offset (closes t) offset braces) x) same.1
          (subst (λ x. Closing text p (with_offset (closes x) offset braces) m) same.0 on)

  -- at the end all are found
  pub closing_all :
      (braces : List ℕ) (t : Token) (after : List ℕ) → Closing text p braces rest → front (scan_of p.two text) rest ≡ Ok (t, after) → t ≡ the_end →
      AllZip (BeginAt text p) (brace_tokens p.body (the_end ∷ [])) braces
  closing_all braces t after s here at_end = find_all s.left s.goes_on s.whole s.ends
    where
      find_all :
          (ts : List Token) → Leads (scan_of p.two text) rest ts [] → s.found ++ closings ts ≡ brace_tokens p.body (the_end ∷ []) → EndsOnce ts →
          AllZip (BeginAt text p) (brace_tokens p.body (the_end ∷ [])) braces
      find_all [] l whole e = absurd e
      find_all (u ∷ us) (m, there, l) whole e =
          let same = ok_pair (u, m) (t, after) (sym there ∙ here) in
          let last : u ∷ us ≡ the_end ∷ [] = cons_is u us (same.0 ∙ at_end) (ends_here u us e (same.0 ∙ at_end)) in
          let found_all : s.found ≡ brace_tokens p.body (the_end ∷ []) = sym (append-nil s.found) ∙ (ap (λ ts. s.found ++ closings ts) (sym last) ∙ whole) in
          subst (λ owns. AllZip (BeginAt text p) owns braces) found_all s.begun
