-- One more line feed at the end of a text changes no token, and behind a line feed no text goes on with a byte that is no token.
use Rattle.std.proofs.Common.{◌≡◌, ℕ, ◌+◌, ◌-◌, ◌==◌, ◌&&◌, ◌⊎◌, Bool, true, false, cond, List, [], ◌∷◌, ◌++◌, length, take, drop, Result, Ok, refl, sym, ap, subst, ◌∙◌, inl, inr}
use Rattle.std.specs.List.{list_all, prefix_len}
use Rattle.std.proofs.lemmas.List.{take-append-le, drop-append-le}
use Rattle.std.proofs.lemmas.List.Sums.{prefix_len-le-length}
use Rattle.pl_syntax.specs.declared.scan.Scan.{Scan}
use Rattle.pl_syntax.specs.declared.fault.SyntaxFault.{SyntaxFault}
use Rattle.armus_base.specs.declared.offset.Offset.TheVariants.{Ahead, Back, Here}
use Rattle.pl_syntax.specs.declared.token.Keyword.TheVariants as k
use Rattle.pl_syntax.specs.declared.token.Sign.TheVariants.{OpenBrace, CloseBrace}
use Rattle.pl_syntax.specs.Words.{begins_with, is_word_byte}
use Rattle.pl_syntax.specs.Tokens.{Token, the_end, sign, word, number, front, Leads, after_gap, after_comment, is_blank, token_here, placed, word_token, sign_token, sign_of, word_of, after_word}
use Rattle.pl_syntax.specs.Tree.{Tree, done, plain, fork, loop, Plain, new_task, new_phaser, reg, dereg, adv, await, skip}
use Rattle.pl_syntax.specs.Grammar.{ReadsTokens, header, scan_of, tokens, plain_tokens, with_name, sentence}
use Rattle.pl_syntax.specs.calls.Laws.{LineFeedChangesNothing, NoLineIsAMark}
use Rattle.pl_syntax.proofs.Fronts.{chosen, end_in_front, ok_pair, was_found}

-- ---- the run of word bytes before a line feed

prefix_before : (xs ys : List ℕ) → prefix_len is_word_byte (xs ++ 10 ∷ ys) ≡ prefix_len is_word_byte xs
prefix_before [] ys = refl
prefix_before (x ∷ xs) ys = ap (λ n. cond (is_word_byte x) (1 + n) 0) (prefix_before xs ys)

same_word : (xs ys : List ℕ) → word_of (xs ++ 10 ∷ ys) ≡ word_of xs
same_word xs ys =
    ap (λ n. take n (xs ++ 10 ∷ ys)) (prefix_before xs ys)
    ∙ take-append-le (prefix_len is_word_byte xs) xs (10 ∷ ys) (prefix_len-le-length is_word_byte xs)

same_rest : (xs ys : List ℕ) → after_word (xs ++ 10 ∷ ys) ≡ after_word xs ++ 10 ∷ ys
same_rest xs ys =
    ap (λ n. drop n (xs ++ 10 ∷ ys)) (prefix_before xs ys)
    ∙ drop-append-le (prefix_len is_word_byte xs) xs (10 ∷ ys) (prefix_len-le-length is_word_byte xs)

-- the same way of reading, of a text with so many bytes
abbrev with_total : ℕ → Scan → Scan
with_total n scan = record { total = n; offsets = scan.offsets; language = scan.language }

-- a token before a line feed is that token, whatever stands behind the line feed
here_before :
    (scan : Scan) (n b : ℕ) (bs ys : List ℕ) (t : Token) (mid : List ℕ) → token_here scan (b ∷ bs) ≡ Ok (t, mid) →
    token_here (with_total n scan) ((b ∷ bs) ++ 10 ∷ ys) ≡ Ok (t, mid ++ 10 ∷ ys)
here_before scan n b bs ys t mid e =
    let w : List ℕ = b ∷ bs in
    let more : List ℕ = w ++ 10 ∷ ys in
    let at : ℕ = n - length more in
    let words : Result (Token × List ℕ) SyntaxFault = placed at (word_token scan.language (word_of more)) (after_word more) in
    let signs : Result (Token × List ℕ) SyntaxFault = placed at (sign_token (sign_of scan.offsets b)) (bs ++ 10 ∷ ys) in
    elim (chosen (is_word_byte b) _ _ _ e) [
      | inl p ↦
          let f = was_found _ (word_token scan.language (word_of w)) (after_word w) t mid p.1 in
          ap (λ v. cond v words signs) p.0
          ∙ ap (λ u. placed at (word_token scan.language u) (after_word more)) (same_word w ys)
          ∙ ap (λ u. placed at (word_token scan.language (word_of w)) u) (same_rest w ys)
          ∙ ap (λ r. placed at r (after_word w ++ 10 ∷ ys)) f.0
          ∙ ap (λ r. Ok (t, r ++ 10 ∷ ys)) f.1
      | inr p ↦
          let f = was_found _ (sign_token (sign_of scan.offsets b)) bs t mid p.1 in
          ap (λ v. cond v words signs) p.0
          ∙ ap (λ r. placed at r (bs ++ 10 ∷ ys)) f.0
          ∙ ap (λ r. Ok (t, r ++ 10 ∷ ys)) f.1
    ]

begins_before : (bs ys : List ℕ) → begins_with 47 (bs ++ 10 ∷ ys) ≡ begins_with 47 bs
begins_before [] ys = refl
begins_before (x ∷ xs) ys = refl

-- ---- a line feed at the end

-- with a line feed, where something is left
with_feed : List ℕ → List ℕ
with_feed [] = []
with_feed (b ∷ bs) = (b ∷ bs) ++ 10 ∷ []

gap_cases :
    (blank comment : Bool) (gap rest : List ℕ) (b : ℕ) (bs : List ℕ) →
    cond blank (with_feed gap) (cond comment (with_feed rest) (b ∷ (bs ++ 10 ∷ []))) ≡ with_feed (cond blank gap (cond comment rest (b ∷ bs)))
unfolding with_feed
gap_cases true comment gap rest b bs = refl
gap_cases false true gap rest b bs = refl
gap_cases false false gap rest b bs = refl

comment_cases : (ends : Bool) (gap rest : List ℕ) → cond ends (with_feed gap) (with_feed rest) ≡ with_feed (cond ends gap rest)
comment_cases true gap rest = refl
comment_cases false gap rest = refl

mutual
  unfolding with_feed

  gap_feed : (text : List ℕ) → after_gap (text ++ 10 ∷ []) ≡ with_feed (after_gap text)
  gap_feed [] = refl
  gap_feed (b ∷ bs) =
      ap (λ g. cond (is_blank b) g (cond (b == 47 && begins_with 47 (bs ++ 10 ∷ [])) (after_comment (bs ++ 10 ∷ [])) (b ∷ (bs ++ 10 ∷ [])))) (gap_feed bs)
      ∙ ap (λ c. cond (is_blank b) (with_feed (after_gap bs)) (cond (b == 47 && begins_with 47 (bs ++ 10 ∷ [])) c (b ∷ (bs ++ 10 ∷ [])))) (comment_feed bs)
      ∙ ap (λ v. cond (is_blank b) (with_feed (after_gap bs)) (cond (b == 47 && v) (with_feed (after_comment bs)) (b ∷ (bs ++ 10 ∷ [])))) (begins_before bs [])
      ∙ gap_cases (is_blank b) (b == 47 && begins_with 47 bs) (after_gap bs) (after_comment bs) b bs

  comment_feed : (text : List ℕ) → after_comment (text ++ 10 ∷ []) ≡ with_feed (after_comment text)
  comment_feed [] = refl
  comment_feed (b ∷ bs) =
      ap (λ g. cond (b == 10) g (after_comment (bs ++ 10 ∷ []))) (gap_feed bs)
      ∙ ap (λ c. cond (b == 10) (with_feed (after_gap bs)) c) (comment_feed bs)
      ∙ comment_cases (b == 10) (after_gap bs) (after_comment bs)

-- nothing is left, and the token is the end; or the token is the same, with a line feed behind what is left
abbrev Fed : Scan → List ℕ → Token → List ℕ → Type 0
Fed other text t mid =
    ((front other (text ++ 10 ∷ []) ≡ Ok (t, [])) × (t ≡ the_end) × (mid ≡ [])) ⊎ (front other (text ++ 10 ∷ []) ≡ Ok (t, mid ++ 10 ∷ []))

feed_here : (scan : Scan) (n : ℕ) (text gap : List ℕ) (t : Token) (mid : List ℕ) → after_gap text ≡ gap → token_here scan gap ≡ Ok (t, mid) → Fed (with_total n scan) text t mid
unfolding front with_feed
feed_here scan n text [] t mid is e =
    let f = ok_pair (the_end, []) (t, mid) e in
    inl (ap (token_here (with_total n scan)) (gap_feed text ∙ ap with_feed is) ∙ ap (λ (x : Token). Ok (x, [])) f.0, sym f.0, sym f.1)
feed_here scan n text (b ∷ bs) t mid is e =
    inr (ap (token_here (with_total n scan)) (gap_feed text ∙ ap with_feed is) ∙ here_before scan n b bs [] t mid e)

fed : (scan : Scan) (n : ℕ) (text : List ℕ) (t : Token) (mid : List ℕ) → front scan text ≡ Ok (t, mid) → Fed (with_total n scan) text t mid
unfolding front
fed scan n text t mid e = feed_here scan n text (after_gap text) t mid refl e

some_left : (mid : List ℕ) → mid ++ 10 ∷ [] ≡ [] → ⊥
some_left [] e = absurd cc
some_left (b ∷ bs) e = absurd cc

-- where nothing is left, the length of the whole does not matter
leads_nothing : (scan : Scan) (n : ℕ) (ts : List Token) → Leads scan [] ts [] → Leads (with_total n scan) [] ts []
unfolding front
leads_nothing scan n [] h = h
leads_nothing scan n (t ∷ ts) h =
    let f = ok_pair (the_end, []) (t, h.0) h.1 in
    ([], ap (λ (x : Token). Ok (x, [])) f.0, leads_nothing scan n ts (subst (λ m. Leads scan m ts []) (sym f.1) h.2))

leads_feed :
    (scan : Scan) (n : ℕ) (text : List ℕ) (ts : List Token) → Leads scan text (ts ++ the_end ∷ []) [] → Leads (with_total n scan) (text ++ 10 ∷ []) (ts ++ the_end ∷ []) []
leads_feed scan n text [] h =
    elim (fed scan n text the_end h.0 h.1) [
      | inl p ↦ ([], p.0, refl)
      | inr p ↦ absurd (some_left h.0 (end_in_front (with_total n scan) (text ++ 10 ∷ []) (h.0 ++ 10 ∷ []) p))
    ]
leads_feed scan n text (t ∷ ts) h =
    elim (fed scan n text t h.0 h.1) [
      | inl p ↦ ([], p.0, leads_nothing scan n (ts ++ the_end ∷ []) (subst (λ m. Leads scan m (ts ++ the_end ∷ []) []) p.2 h.2))
      | inr p ↦ (h.0 ++ 10 ∷ [], p, leads_feed scan n h.0 ts h.2)
    ]

-- a token that is not the end
abbrev pub is_real : Token → Bool
is_real the_end = false
is_real t = true

-- tokens that are not the end are read as before
leads_part :
    (scan : Scan) (n : ℕ) (text : List ℕ) (ts : List Token) (rest : List ℕ) → list_all is_real ts ≡ true → Leads scan text ts rest →
    Leads (with_total n scan) (text ++ 10 ∷ []) ts (rest ++ 10 ∷ [])
leads_part scan n text [] rest real h = ap (λ (m : List ℕ). m ++ 10 ∷ []) h
leads_part scan n text (t ∷ ts) rest real h =
    let all = two_true (is_real t) (list_all is_real ts) real in
    elim (fed scan n text t h.0 h.1) [
      | inl p ↦ absurd (let q : true ≡ false = sym all.0 ∙ ap is_real p.1 in cc)
      | inr p ↦ (h.0 ++ 10 ∷ [], p, leads_part scan n h.0 ts rest all.1 h.2)
    ]
  where
    two_true : (a b : Bool) → (a && b) ≡ true → (a ≡ true) × (b ≡ true)
    two_true true b e = (refl, e)
    two_true false b e = absurd cc

plain_append : (s : Plain) (us vs : List Token) → plain_tokens s (us ++ vs) ≡ plain_tokens s us ++ vs
plain_append (new_task x) us vs = refl
plain_append (new_phaser x) us vs = refl
plain_append (reg x y) us vs = refl
plain_append (dereg x) us vs = refl
plain_append (adv x) us vs = refl
plain_append (await x Here) us vs = refl
plain_append (await x (Back k)) us vs = refl
plain_append (await x (Ahead k)) us vs = refl
plain_append skip us vs = refl

pub tokens_append : (p : Tree) (us vs : List Token) → tokens p (us ++ vs) ≡ tokens p us ++ vs
tokens_append done us vs = refl
tokens_append (plain s more) us vs = ap (plain_tokens s) (tokens_append more us vs) ∙ plain_append s (tokens more us) vs
tokens_append (fork x body more) us vs =
    ap (λ z. word k.Fork ∷ with_name x (sign OpenBrace ∷ z))
    (ap (λ y. tokens body (sign CloseBrace ∷ y)) (tokens_append more us vs) ∙ tokens_append body (sign CloseBrace ∷ tokens more us) vs)
tokens_append (loop n body more) us vs =
    ap (λ z. word k.Loop ∷ number n ∷ sign OpenBrace ∷ z)
    (ap (λ y. tokens body (sign CloseBrace ∷ y)) (tokens_append more us vs) ∙ tokens_append body (sign CloseBrace ∷ tokens more us) vs)

feed_in_form : (two : Bool) (text : List ℕ) (p : Tree) → ReadsTokens two text (sentence p) [] → ReadsTokens two (text ++ 10 ∷ []) (sentence p) []
feed_in_form false text p h =
    let is : sentence p ≡ tokens p [] ++ the_end ∷ [] = tokens_append p [] (the_end ∷ []) in
    subst (λ ts. Leads (scan_of false (text ++ 10 ∷ [])) (text ++ 10 ∷ []) ts []) (sym is)
    (leads_feed (scan_of false text) (length (text ++ 10 ∷ [])) text (tokens p []) (subst (λ ts. Leads (scan_of false text) text ts []) is h))
feed_in_form true text p h =
    let is : sentence p ≡ tokens p [] ++ the_end ∷ [] = tokens_append p [] (the_end ∷ []) in (
      h.0 ++ 10 ∷ [],
      leads_part (scan_of false text) (length (text ++ 10 ∷ [])) text header h.0 refl h.1,
      subst (λ ts. Leads (scan_of true (text ++ 10 ∷ [])) (h.0 ++ 10 ∷ []) ts []) (sym is)
          (leads_feed (scan_of true text) (length (text ++ 10 ∷ [])) h.0 (tokens p []) (subst (λ ts. Leads (scan_of true text) h.0 ts []) is h.2)),
    )

pub line_feed_changes_nothing : LineFeedChangesNothing
line_feed_changes_nothing text p h = record { reads = feed_in_form p.two text p.body h.reads; shallow = h.shallow }

-- ---- a mark behind a line feed

-- the bytes begin with the mark, or have it behind a line feed
abbrev HasMark : List ℕ → Type 0
HasMark text = ((rest : List ℕ) × (text ≡ 37 ∷ rest)) ⊎ ((front : List ℕ) × (rest : List ℕ) × (text ≡ front ++ 10 ∷ 37 ∷ rest))

by_gap : (blank comment : Bool) (gap rest text : List ℕ) → HasMark gap → HasMark rest → HasMark text → HasMark (cond blank gap (cond comment rest text))
by_gap true comment gap rest text g r t = g
by_gap false true gap rest text g r t = r
by_gap false false gap rest text g r t = t

by_comment : (ends : Bool) (gap rest : List ℕ) → HasMark gap → HasMark rest → HasMark (cond ends gap rest)
by_comment true gap rest g r = g
by_comment false gap rest g r = r

mutual
  gap_mark : (ahead rest : List ℕ) → HasMark (after_gap (ahead ++ 10 ∷ 37 ∷ rest))
  gap_mark [] rest = inl (rest, refl)
  gap_mark (b ∷ bs) rest =
      by_gap (is_blank b) (b == 47 && begins_with 47 (bs ++ 10 ∷ 37 ∷ rest)) (after_gap (bs ++ 10 ∷ 37 ∷ rest)) (after_comment (bs ++ 10 ∷ 37 ∷ rest))
      (b ∷ (bs ++ 10 ∷ 37 ∷ rest)) (gap_mark bs rest) (comment_mark bs rest) (inr (b ∷ bs, rest, refl))

  comment_mark : (ahead rest : List ℕ) → HasMark (after_comment (ahead ++ 10 ∷ 37 ∷ rest))
  comment_mark [] rest = inl (rest, refl)
  comment_mark (b ∷ bs) rest =
      by_comment (b == 10) (after_gap (bs ++ 10 ∷ 37 ∷ rest)) (after_comment (bs ++ 10 ∷ 37 ∷ rest)) (gap_mark bs rest) (comment_mark bs rest)

-- the mark behind a line feed is left behind a token
abbrev LeavesMark : List ℕ → Type 0
LeavesMark mid = (front : List ℕ) × (rest : List ℕ) × (mid ≡ front ++ 10 ∷ 37 ∷ rest)

left_here : (scan : Scan) (ahead rest : List ℕ) (t : Token) (mid : List ℕ) → token_here scan (ahead ++ 10 ∷ 37 ∷ rest) ≡ Ok (t, mid) → LeavesMark mid
left_here scan [] rest t mid e = absurd cc
left_here scan (b ∷ bs) rest t mid e =
    elim (chosen (is_word_byte b) _ _ _ e) [
      | inl p ↦
          let text : List ℕ = (b ∷ bs) ++ 10 ∷ 37 ∷ rest in
          let f = was_found _ (word_token scan.language (word_of text)) (after_word text) t mid p.1 in
          (after_word (b ∷ bs), rest, sym f.1 ∙ same_rest (b ∷ bs) (37 ∷ rest))
      | inr p ↦ let f = was_found _ (sign_token (sign_of scan.offsets b)) (bs ++ 10 ∷ 37 ∷ rest) t mid p.1 in (bs, rest, sym f.1)
    ]

left_by : (scan : Scan) (gap : List ℕ) (t : Token) (mid : List ℕ) → HasMark gap → token_here scan gap ≡ Ok (t, mid) → LeavesMark mid
left_by scan gap t mid (inl (rest, is)) e =
    absurd (let f : token_here scan (37 ∷ rest) ≡ Ok (t, mid) = ap (token_here scan) (sym is) ∙ e in cc)
left_by scan gap t mid (inr (ahead, rest, is)) e = left_here scan ahead rest t mid (ap (token_here scan) (sym is) ∙ e)

left_behind : (scan : Scan) (ahead rest : List ℕ) (t : Token) (mid : List ℕ) → front scan (ahead ++ 10 ∷ 37 ∷ rest) ≡ Ok (t, mid) → LeavesMark mid
unfolding front
left_behind scan ahead rest t mid e = left_by scan (after_gap (ahead ++ 10 ∷ 37 ∷ rest)) t mid (gap_mark ahead rest) e

some_there : (ahead rest : List ℕ) → ahead ++ 10 ∷ 37 ∷ rest ≡ [] → ⊥
some_there [] rest e = absurd cc
some_there (b ∷ bs) rest e = absurd cc

-- so no tokens come to the end
never_ends : (scan : Scan) (ts : List Token) (ahead rest : List ℕ) → Leads scan (ahead ++ 10 ∷ 37 ∷ rest) ts [] → ⊥
never_ends scan [] ahead rest h = some_there ahead rest h
never_ends scan (t ∷ ts) ahead rest h =
    let (ahead', rest', is) = left_behind scan ahead rest t h.0 h.1 in
    never_ends scan ts ahead' rest' (subst (λ m. Leads scan m ts []) is h.2)

never_begins : (scan : Scan) (ts : List Token) (rest : List ℕ) → Leads scan (37 ∷ rest) ts [] → ⊥
unfolding front
never_begins scan [] rest h = absurd cc
never_begins scan (t ∷ ts) rest h = absurd (let e = h.1 in cc)

-- of a part of the tokens, either the mark is left, or they do not begin there
mark_stays : (scan : Scan) (ts : List Token) (ahead rest : List ℕ) (left : List ℕ) → Leads scan (ahead ++ 10 ∷ 37 ∷ rest) ts left → LeavesMark left
mark_stays scan [] ahead rest left h = (ahead, rest, sym h)
mark_stays scan (t ∷ ts) ahead rest left h =
    let (ahead', rest', is) = left_behind scan ahead rest t h.0 h.1 in
    mark_stays scan ts ahead' rest' left (subst (λ m. Leads scan m ts left) is h.2)

no_mark_first : (two : Bool) (p : Tree) (rest : List ℕ) → ReadsTokens two (37 ∷ rest) (sentence p) [] → ⊥
unfolding front
no_mark_first false p rest h = never_begins (scan_of false (37 ∷ rest)) (sentence p) rest h
no_mark_first true p rest h = absurd (let e = h.1.1 in cc)

no_mark_later : (two : Bool) (p : Tree) (ahead rest : List ℕ) → ReadsTokens two (ahead ++ 10 ∷ 37 ∷ rest) (sentence p) [] → ⊥
no_mark_later false p ahead rest h = never_ends (scan_of false (ahead ++ 10 ∷ 37 ∷ rest)) (sentence p) ahead rest h
no_mark_later true p ahead rest h =
    let (ahead', rest', is) = mark_stays (scan_of false (ahead ++ 10 ∷ 37 ∷ rest)) header ahead rest h.0 h.1 in
    never_ends (scan_of true (ahead ++ 10 ∷ 37 ∷ rest)) (sentence p) ahead' rest'
    (subst (λ m. Leads (scan_of true (ahead ++ 10 ∷ 37 ∷ rest)) m (sentence p) []) is h.2)

pub no_line_is_a_mark : NoLineIsAMark
no_line_is_a_mark p rest = (λ h. no_mark_first p.two p.body rest h.reads, λ ahead h. no_mark_later p.two p.body ahead rest h.reads)
