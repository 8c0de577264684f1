-- Reading a list of statements gives trees of the grammar or the place where the machine is stuck, if reading what stands before a statement's body does so. For
-- the statements of any language.
use Rattle.std.proofs.Common.{◌≡◌, ℕ, zero, suc, ◌+◌, ◌<◌, ◌≤◌, Bool, true, false, not, cond, List, [], ◌∷◌, ◌++◌, length, Some, None, Result, Ok, Err, refl, sym, ap, subst, ◌∙◌, add-one, arith, ◌⊎◌, inl, inr}
use Rattle.std.proofs.lemmas.Bool.Decides.{nat_tests}
use Rattle.pl_syntax.specs.declared.scan.Scan.{Scan}
use Rattle.pl_syntax.specs.declared.limits.TheConstants.{MAX_OPEN_BRACES}
use Rattle.pl_syntax.specs.declared.token.Sign.TheVariants.{Equals, OpenParen, CloseParen, Comma, Semicolon, OpenBrace, CloseBrace, Plus, Minus}
use Rattle.pl_syntax.specs.declared.token.Keyword.{Keyword}
use Rattle.pl_syntax.specs.declared.token.Keyword.TheVariants as k
use Rattle.pl_syntax.specs.declared.fault.SyntaxFault.{SyntaxFault}
use Rattle.pl_syntax.specs.declared.statement.Begun.{Begun}
use Rattle.pl_syntax.specs.declared.statement.Begun.TheVariants.{Whole, Head}
use Rattle.pl_syntax.specs.Tokens.{Token, the_end, sign, word, name, number, front, Leads}
use Rattle.pl_syntax.specs.Grammar.{opened, with_name, StaysShallow}
use Rattle.pl_syntax.specs.inside.Reading.{◌>>=◌, unexpected, BlockOf, opened_at, sign_at, number_at, named_at, braced_at, listed_by, statements_by, ended_at, whole_by, ends_list}
use Rattle.pl_syntax.specs.inside.Statements.{Statements, begun_at, named_by, with_body, statement_at}
use Rattle.pl_syntax.proofs.Fronts.{chosen, ok_pair, progress, front_le, end_in_front}
use Rattle.pl_syntax.proofs.Machine.{Shape, a_sign, Firsts, at, fits, first_step, run, s_end, s_named, s_loop}
use Rattle.pl_syntax.proofs.Leaves.{bind_ok, bind_err, ok_is, Stuck, Leads-append, behind, sign_ok, sign_err, sign_fault, number_ok, number_err, after_number, opened_ok, opened_err, none_here, refused, after}
use Rattle.pl_syntax.proofs.Groups.{named_ok, named_err}

-- ---- what was read

-- a tree was read from the front, where d braces are open
pub record Took
    (Tree : Type 0) (tokens : Tree → List Token → List Token) (height : Tree → ℕ) (scan : Scan) (text : List ℕ) (p : Tree) (rest : List ℕ) (d : ℕ)
    : Type 0 where
  pub leads : (us : List Token) (end : List ℕ) → Leads scan rest us end → Leads scan text (tokens p us) end
  pub deep : height p + d ≤ MAX_OPEN_BRACES

-- a token before which a list ends is next
pub record Stops (scan : Scan) (text : List ℕ) : Type 0 where
  pub token : Token
  pub rest : List ℕ
  pub here : front scan text ≡ Ok (token, rest)
  pub ends : ends_list token ≡ true

-- a tree in braces was read
pub record Inside
    (Tree : Type 0) (tokens : Tree → List Token → List Token) (height : Tree → ℕ) (scan : Scan) (text : List ℕ) (p : Tree) (rest : List ℕ) (d : ℕ)
    : Type 0 where
  pub leads : (us : List Token) (end : List ℕ) → Leads scan rest us end → Leads scan text (sign OpenBrace ∷ tokens p (sign CloseBrace ∷ us)) end
  pub deep : height p + 1 + d ≤ MAX_OPEN_BRACES

-- what reads statements does so, on texts shorter than m
pub record Lawful
    (S Tree : Type 0) (tokens : Tree → List Token → List Token) (height : Tree → ℕ) (tree_of : List S → Tree) (g : Firsts) (scan : Scan) (body : BlockOf S) (m : ℕ)
    : Type 0 where
  pub took :
      (d : ℕ) (text : List ℕ) (y : List S × List ℕ) → d ≤ MAX_OPEN_BRACES → length text < m → body d text ≡ Ok y → Took Tree tokens height scan text (tree_of y.0) y.1 d
  pub stops : (d : ℕ) (text : List ℕ) (y : List S × List ℕ) → d ≤ MAX_OPEN_BRACES → length text < m → body d text ≡ Ok y → Stops scan y.1
  pub fails : (d : ℕ) (text : List ℕ) (f : SyntaxFault) → d ≤ MAX_OPEN_BRACES → length text < m → body d text ≡ Err f → Stuck scan g [] d text f

-- the statements of a whole text were read
pub record ReadBody (Tree : Type 0) (tokens : Tree → List Token → List Token) (height : Tree → ℕ) (scan : Scan) (text : List ℕ) (p : Tree) : Type 0 where
  pub reads : Leads scan text (tokens p (the_end ∷ [])) []
  pub shallow : height p ≤ MAX_OPEN_BRACES

-- the first token is none before which a list ends
abbrev pub goes_first : List Token → Bool
goes_first [] = false
goes_first (t ∷ ts) = not (ends_list t)

-- What was read of a statement behind its first token: it is whole, and its tree was read; or these are the tokens before its body, and where the machine is
-- stuck at the body, it is so in the statement.
abbrev pub TookBegun :
    (S H Tree : Type 0) → (Tree → List Token → List Token) → (Tree → ℕ) → Firsts → (S → Tree) → (H → Token) → (H → List Token) →
    Scan → Token → List ℕ → List ℕ → Begun S H → List ℕ → ℕ → Type 0
TookBegun S H Tree tokens height g one first head scan t before text (Whole s) rest d = Took Tree tokens height scan before (one s) rest d
TookBegun S H Tree tokens height g one first head scan t before text (Head h) rest d =
    (t ≡ first h) × Leads scan text (head h) rest × ((f : SyntaxFault) → Stuck scan g (a_sign OpenBrace ∷ []) d rest f → Stuck scan g [] d before f)

-- the token begins neither `skip;` nor `loop k { .. }`
abbrev pub is_own : Token → Bool
is_own (word k.Skip) = false
is_own (word k.Loop) = false
is_own _ = true

-- ---- how much is left

module _ (scan : Scan) where
  pub leads_le : (text : List ℕ) (ts : List Token) (rest : List ℕ) → Leads scan text ts rest → length rest ≤ length text
  leads_le text [] rest h = let m = ap (λ (x : List ℕ). length x) h in omega arith
  leads_le text (t ∷ ts) rest h = let a = front_le scan text t h.0 h.1 in let b = leads_le h.0 ts rest h.2 in omega arith

  leads_lt : (text : List ℕ) (t : Token) (ts : List Token) (rest : List ℕ) → ends_list t ≡ false → Leads scan text (t ∷ ts) rest → length rest < length text
  leads_lt text t ts rest e h = let a = progress scan text t h.0 h.1 e in let b = leads_le h.0 ts rest h.2 in omega arith

  pub all_lt : (text : List ℕ) (ts : List Token) (rest : List ℕ) → goes_first ts ≡ true → Leads scan text ts rest → length rest < length text
  all_lt text [] rest e h = absurd cc
  all_lt text (t ∷ ts) rest e h = leads_lt text t ts rest (let g : not (ends_list t) ≡ true = e in grind (arith, nat_tests)) h

  end_stays : (text : List ℕ) (t : Token) (rest : List ℕ) → front scan text ≡ Ok (t, rest) → t ≡ the_end → rest ≡ []
  end_stays text t rest e h = end_in_front scan text rest (e ∙ ap (λ (x : Token). Ok (x, rest)) h)

  -- behind the first token of a statement
  pub begun : (g : Firsts) (t : Token) (ss : List Shape) (d : ℕ) (text mid : List ℕ) (f : SyntaxFault) → d ≤ MAX_OPEN_BRACES → front scan text ≡ Ok (t, mid) →
      first_step g d t ≡ Some (at ss d) → opened t d ≡ d → Stuck scan g ss d mid f → Stuck scan g [] d text f
  begun g t ss d text mid f le here steps flat stuck =
      behind scan g [] d text (t ∷ []) ss d mid f (mid, here, refl) (rw steps refl) (le, rw flat le) flat stuck

  -- tokens without a brace are a tree
  pub flat_took : (Tree : Type 0) (tokens : Tree → List Token → List Token) (height : Tree → ℕ) (p : Tree) (t : Token) (ts : List Token) (d : ℕ) (before text rest : List ℕ)
      → height p ≡ 0 → d ≤ MAX_OPEN_BRACES → front scan before ≡ Ok (t, text) → Leads scan text ts rest → ((us : List Token) → t ∷ (ts ++ us) ≡ tokens p us)
      → Took Tree tokens height scan before p rest d
  flat_took Tree tokens height p t ts d before text rest flat le here leads spelled = record {
    leads = λ us end h. subst (λ (x : List Token). Leads scan before x end) (spelled us) (text, here, Leads-append scan text ts rest us end leads h);
    deep = omega arith;
  }

  -- `( x ) ;`
  module _
      (S H Tree : Type 0) (tokens : Tree → List Token → List Token) (height : Tree → ℕ) (g : Firsts) (one : S → Tree) (first : H → Token) (head : H → List Token)
      (make : List ℕ → S) (w : Keyword) (d : ℕ) (before text : List ℕ) (le : d ≤ MAX_OPEN_BRACES) (here : front scan before ≡ Ok (word w, text)) where
    pub named_took : (y : Begun S H × List ℕ) → ((x : List ℕ) → height (one (make x)) ≡ 0)
        → ((x : List ℕ) (us : List Token) → word w ∷ with_name x (sign Semicolon ∷ us) ≡ tokens (one (make x)) us) → named_by make scan text ≡ Ok y
        → TookBegun S H Tree tokens height g one first head scan (word w) before text y.0 y.1 d
    unfolding named_by
    named_took y flat spelled e =
        let b = bind_ok (named_at scan text) _ y e in
        subst (λ (z : Begun S H × List ℕ). TookBegun S H Tree tokens height g one first head scan (word w) before text z.0 z.1 d) (ok_is (Whole (make b.0.0), b.0.1) y b.2)
        (flat_took Tree tokens height (one (make b.0.0)) (word w) (with_name b.0.0 (sign Semicolon ∷ [])) d before text b.0.1 (flat b.0.0) le here
        (named_ok scan text b.0 b.1) (spelled b.0.0))

    pub named_stuck : (f : SyntaxFault) → first_step g d (word w) ≡ Some (at s_named d) → named_by {S = S} {H = H} make scan text ≡ Err f → Stuck scan g [] d before f
    unfolding named_by
    named_stuck f steps e =
        elim (bind_err (named_at scan text) _ f e) [
          | inl p ↦ begun g (word w) s_named d before text f le here steps refl (named_err scan g d text f le p)
          | inr b ↦ absurd (let q = b.2 in cc)
        ]

not_close : (g : Firsts) (t : Token) (d : ℕ) → ends_list t ≡ true → (t ≡ sign CloseBrace) ⊎ (first_step g (suc d) t ≡ None)
not_close g the_end d e = inr refl
not_close g (sign CloseBrace) d e = inl refl
not_close g (sign Equals) d e = inr refl
not_close g (sign OpenParen) d e = inr refl
not_close g (sign CloseParen) d e = inr refl
not_close g (sign Comma) d e = inr refl
not_close g (sign Semicolon) d e = inr refl
not_close g (sign OpenBrace) d e = inr refl
not_close g (sign Plus) d e = inr refl
not_close g (sign Minus) d e = inr refl
not_close g (word w) d e = absurd cc
not_close g (name w) d e = absurd cc
not_close g (number w) d e = absurd cc

-- ---- trees that the machine takes

module _
    (S Tree : Type 0) (tokens : Tree → List Token → List Token) (height : Tree → ℕ) (tree_of : List S → Tree) (g : Firsts) (scan : Scan)
    (run_tree : (p : Tree) (d : ℕ) (rest : List Token) → run g (at [] d) (tokens p rest) ≡ run g (at [] d) rest)
    (stays : (p : Tree) (d : ℕ) (rest : List Token) → height p + d ≤ MAX_OPEN_BRACES → StaysShallow d rest → StaysShallow d (tokens p rest)) where
  abbrev Laws : BlockOf S → ℕ → Type 0
  Laws body m = Lawful S Tree tokens height tree_of g scan body m

  behind_tree : (p : Tree) (d : ℕ) (text mid : List ℕ) (f : SyntaxFault) → Took Tree tokens height scan text p mid d → Stuck scan g [] d mid f → Stuck scan g [] d text f
  behind_tree p d text mid f t s = record {
    before = tokens p s.before;
    left = s.left;
    shapes = s.shapes;
    deep = s.deep;
    reads = t.leads s.before s.left s.reads;
    runs = run_tree p d s.before ∙ s.runs;
    shallow = stays p d s.before t.deep s.shallow;
    here = s.here;
  }

  -- ---- bodies

  module _ (body : BlockOf S) (m : ℕ) (law : Laws body m) where
    block_ok : (d : ℕ) (text : List ℕ) (y : List S × List ℕ) → d ≤ MAX_OPEN_BRACES → length text < m → braced_at body scan d text ≡ Ok y →
        Inside Tree tokens height scan text (tree_of y.0) y.1 d
    unfolding braced_at
    block_ok d text y le lt e =
        let a = bind_ok (opened_at scan d text) _ y e in
        let b = bind_ok (body (d + 1) a.0) _ y a.2 in
        let c = bind_ok (sign_at scan CloseBrace b.0.1) _ y b.2 in
        let o = opened_ok scan d text a.0 a.1 in
        let l = front_le scan text (sign OpenBrace) a.0 o.0 in
        let t = law.took (d + 1) a.0 b.0 (let q = o.1 in omega arith) (omega arith) b.1 in
        subst (λ (z : List S × List ℕ). Inside Tree tokens height scan text (tree_of z.0) z.1 d) (ok_is (b.0.0, c.0) y c.2)
        record {
          leads = λ us end h. (a.0, o.0, t.leads (sign CloseBrace ∷ us) end (c.0, sign_ok scan CloseBrace b.0.1 c.0 c.1, h));
          deep = (let q = t.deep in omega arith);
        }

    -- a token that does not close the body
    unclosed : (d : ℕ) (text : List ℕ) (f : SyntaxFault) → d + 1 ≤ MAX_OPEN_BRACES → Stops scan text → sign_at scan CloseBrace text ≡ Err f → Stuck scan g [] (d + 1) text f
    unclosed d text f le st e =
        let c = sign_fault scan CloseBrace text st.token st.rest f st.here e in
        elim (not_close g st.token d st.ends) [
          | inl p ↦ absurd (let q : fits (a_sign CloseBrace) st.token ≡ true = rw p refl in let r : true ≡ false = sym q ∙ c.0 in cc)
          | inr p ↦ refused scan g [] (d + 1) text f le record { token = st.token; rest = st.rest; here = st.here; no_step = rw add-one p; fault_is = c.1 }
        ]

    block_err : (d : ℕ) (text : List ℕ) (f : SyntaxFault) → d ≤ MAX_OPEN_BRACES → length text < m → braced_at body scan d text ≡ Err f →
        Stuck scan g (a_sign OpenBrace ∷ []) d text f
    unfolding braced_at
    block_err d text f le lt e =
        elim (bind_err (opened_at scan d text) _ f e) [
          | inl p ↦ opened_err scan g [] d text f le p
          | inr a ↦
              let o = opened_ok scan d text a.0 a.1 in
              let l = front_le scan text (sign OpenBrace) a.0 o.0 in
              let le' : d + 1 ≤ MAX_OPEN_BRACES = (let q = o.1 in omega arith) in
              let lt' : length a.0 < m = omega arith in
              after scan g (a_sign OpenBrace) (sign OpenBrace) [] d (d + 1) text a.0 f o.0 refl refl le le' refl
              (elim (bind_err (body (d + 1) a.0) _ f a.2) [
                | inl p ↦ law.fails (d + 1) a.0 f le' lt' p
                | inr b ↦ behind_tree (tree_of b.0.0) (d + 1) a.0 b.0.1 f (law.took (d + 1) a.0 b.0 le' lt' b.1)
                    (elim (bind_err (sign_at scan CloseBrace b.0.1) _ f b.2) [
                      | inl p ↦ unclosed d b.0.1 f le' (law.stops (d + 1) a.0 b.0 le' lt' b.1) p
                      | inr c ↦ absurd (let q = c.2 in cc)
                    ])
              ])
        ]

  -- A statement alone is a tree: `skip;`, or what stands before a body, and the body; and it is read as its tree says up to the body, or the machine is stuck in it.
  module _
      (one : S → Tree)
      (tokens_none : (us : List Token) → tokens (tree_of []) us ≡ us)
      (height_none : height (tree_of []) ≡ 0)
      (tokens_first : (s : S) (ss : List S) (us : List Token) → tokens (one s) (tokens (tree_of ss) us) ≡ tokens (tree_of (s ∷ ss)) us)
      (deep_first : (s : S) (ss : List S) (d : ℕ) → height (one s) + d ≤ MAX_OPEN_BRACES → height (tree_of ss) + d ≤ MAX_OPEN_BRACES → height (tree_of (s ∷ ss)) + d ≤ MAX_OPEN_BRACES)
      (tokens_go : (s : S) → goes_first (tokens (one s) []) ≡ true)
      (H : Type 0) (l : Statements S H) (first : H → Token) (head : H → List Token)
      (first_skip : g.by_word k.Skip ≡ Some s_end) (first_loop : g.by_word k.Loop ≡ Some s_loop)
      (height_skip : height (one l.skip) ≡ 0) (tokens_skip : (us : List Token) → word k.Skip ∷ sign Semicolon ∷ us ≡ tokens (one l.skip) us)
      (first_looped : (n : ℕ) → word k.Loop ≡ first (l.looped n)) (head_looped : (n : ℕ) → number n ∷ [] ≡ head (l.looped n))
      (height_held : (h : H) (ss : List S) → height (one (l.holding h ss)) ≡ height (tree_of ss) + 1)
      (tokens_held : (h : H) (ss : List S) (us : List Token) → first h ∷ (head h ++ (sign OpenBrace ∷ tokens (tree_of ss) (sign CloseBrace ∷ us))) ≡ tokens (one (l.holding h ss)) us)
      (begun_ok : (d : ℕ) (t : Token) (before text : List ℕ) (y : Begun S H × List ℕ) → d ≤ MAX_OPEN_BRACES → front scan before ≡ Ok (t, text) →
      l.begun scan t before text ≡ Ok y → TookBegun S H Tree tokens height g one first head scan t before text y.0 y.1 d)
      (begun_err : (d : ℕ) (t : Token) (before text : List ℕ) (f : SyntaxFault) → d ≤ MAX_OPEN_BRACES → front scan before ≡ Ok (t, text) → ends_list t ≡ false →
      is_own t ≡ true → l.begun scan t before text ≡ Err f → Stuck scan g [] d before f) where
    -- ---- one statement

    abbrev TookSome : Token → List ℕ → List ℕ → Begun S H → List ℕ → ℕ → Type 0
    TookSome t before text b rest d = TookBegun S H Tree tokens height g one first head scan t before text b rest d

    first_ok : (d : ℕ) (t : Token) (before text : List ℕ) (y : Begun S H × List ℕ) → d ≤ MAX_OPEN_BRACES → front scan before ≡ Ok (t, text) →
        begun_at l scan t before text ≡ Ok y → TookSome t before text y.0 y.1 d
    first_ok d (word k.Skip) before text y le here e =
        let b = bind_ok (sign_at scan Semicolon text) _ y e in
        subst (λ (z : Begun S H × List ℕ). TookSome (word k.Skip) before text z.0 z.1 d) (ok_is (Whole l.skip, b.0) y b.2)
        (flat_took scan Tree tokens height (one l.skip) (word k.Skip) (sign Semicolon ∷ []) d before text b.0 height_skip le here (b.0, sign_ok scan Semicolon text b.0 b.1, refl) tokens_skip)
    first_ok d (word k.Loop) before text y le here e =
        let b = bind_ok (number_at scan text) _ y e in
        subst (λ (z : Begun S H × List ℕ). TookSome (word k.Loop) before text z.0 z.1 d) (ok_is (Head (l.looped b.0.0), b.0.1) y b.2) (
          first_looped b.0.0,
          subst (λ (x : List Token). Leads scan text x b.0.1) (head_looped b.0.0) (b.0.1, number_ok scan text b.0 b.1, refl),
          λ f stuck. begun scan g (word k.Loop) s_loop d before text f le here (rw first_loop refl) refl (after_number scan g (a_sign OpenBrace ∷ []) d text b.0 f le b.1 stuck),
        )
    first_ok d t before text y le here e = begun_ok d t before text y le here e

    first_err : (d : ℕ) (t : Token) (before text : List ℕ) (f : SyntaxFault) → d ≤ MAX_OPEN_BRACES → front scan before ≡ Ok (t, text) → ends_list t ≡ false →
        begun_at l scan t before text ≡ Err f → Stuck scan g [] d before f
    first_err d (word k.Skip) before text f le here goes e =
        elim (bind_err (sign_at scan Semicolon text) _ f e) [
          | inl p ↦ begun scan g (word k.Skip) s_end d before text f le here (rw first_skip refl) refl (sign_err scan g Semicolon [] d text f le p)
          | inr b ↦ absurd (let q = b.2 in cc)
        ]
    first_err d (word k.Loop) before text f le here goes e =
        elim (bind_err (number_at scan text) _ f e) [
          | inl p ↦ begun scan g (word k.Loop) s_loop d before text f le here (rw first_loop refl) refl (number_err scan g (a_sign OpenBrace ∷ []) d text f le p)
          | inr b ↦ absurd (let q = b.2 in cc)
        ]
    first_err d t before text f le here goes e = begun_err d t before text f le here goes refl e

    abbrev read_one : BlockOf S → Scan → ℕ → Token → List ℕ → List ℕ → Result (S × List ℕ) SyntaxFault
    read_one body scan d t before text = statement_at l body scan d t before text

    module _
        (body : BlockOf S) (m : ℕ) (law : Laws body m) (d : ℕ) (t : Token) (before text : List ℕ) (le : d ≤ MAX_OPEN_BRACES) (lt : length text < m)
        (here : front scan before ≡ Ok (t, text)) where
      rest_ok : (b : Begun S H) (rest : List ℕ) (y : S × List ℕ) → TookSome t before text b rest d → with_body l body scan d b rest ≡ Ok y →
          Took Tree tokens height scan before (one y.0) y.1 d
      rest_ok (Whole s) rest y took e = subst (λ (z : S × List ℕ). Took Tree tokens height scan before (one z.0) z.1 d) (ok_is (s, rest) y e) took
      rest_ok (Head h) rest y took e =
          let b = bind_ok (braced_at body scan d rest) _ y e in
          let less = leads_le scan text (head h) rest took.1 in
          let i = block_ok body m law d rest b.0 le (omega arith) b.1 in
          subst (λ (z : S × List ℕ). Took Tree tokens height scan before (one z.0) z.1 d) (ok_is (l.holding h b.0.0, b.0.1) y b.2)
          record {
            leads = λ us end r.
                subst (λ (x : List Token). Leads scan before x end) (tokens_held h b.0.0 us)
                (text, here ∙ ap (λ (x : Token). Ok (x, text)) took.0, Leads-append scan text (head h) rest _ end took.1 (i.leads us end r));
            deep = (let q = i.deep in let v = height_held h b.0.0 in omega arith);
          }

      rest_err : (b : Begun S H) (rest : List ℕ) (f : SyntaxFault) → TookSome t before text b rest d → with_body l body scan d b rest ≡ Err f → Stuck scan g [] d before f
      rest_err (Whole s) rest f took e = absurd cc
      rest_err (Head h) rest f took e =
          let less = leads_le scan text (head h) rest took.1 in
          elim (bind_err (braced_at body scan d rest) _ f e) [
            | inl p ↦ took.2 f (block_err body m law d rest f le (omega arith) p)
            | inr b ↦ absurd (let q = b.2 in cc)
          ]

      one_ok : (y : S × List ℕ) → read_one body scan d t before text ≡ Ok y → Took Tree tokens height scan before (one y.0) y.1 d
      one_ok y e = let a = bind_ok (begun_at l scan t before text) _ y e in rest_ok a.0.0 a.0.1 y (first_ok d t before text a.0 le here a.1) a.2

      one_err : (f : SyntaxFault) → ends_list t ≡ false → read_one body scan d t before text ≡ Err f → Stuck scan g [] d before f
      one_err f goes e =
          elim (bind_err (begun_at l scan t before text) _ f e) [
            | inl p ↦ first_err d t before text f le here goes p
            | inr a ↦ rest_err a.0.0 a.0.1 f (first_ok d t before text a.0 le here a.1) a.2
          ]

    -- ---- lists of statements

    abbrev statements : ℕ → BlockOf S
    statements n = statements_by read_one n scan

    abbrev turn : ℕ → ℕ → List ℕ → Token × List ℕ → Result (List S × List ℕ) SyntaxFault
    turn n d text x =
        cond (ends_list x.0) (Ok ([], text))
        (read_one (statements n) scan d x.0 text x.1 >>= λ s. statements n d s.1 >>= λ more. Ok (s.0 ∷ more.0, more.1))

    abbrev TookList : List ℕ → List S × List ℕ → ℕ → Type 0
    TookList text y d = Took Tree tokens height scan text (tree_of y.0) y.1 d

    first_lt : (q : S) (text rest : List ℕ) (d : ℕ) → Took Tree tokens height scan text (one q) rest d → length rest < length text
    first_lt q text rest d t = all_lt scan text (tokens (one q) []) rest (tokens_go q) (t.leads [] rest refl)

    module _ (n : ℕ) (law : Laws (statements n) n) (d : ℕ) (text : List ℕ) (le : d ≤ MAX_OPEN_BRACES) (lt : length text < suc n) where
      turn_took : (y : List S × List ℕ) → (x : Token × List ℕ) → front scan text ≡ Ok (x.0, x.1) → turn n d text x ≡ Ok y → TookList text y d × Stops scan y.1
      turn_took y x here e =
          elim (chosen (ends_list x.0) _ _ (Ok y) e) [
            | inl p ↦
                subst (λ (z : List S × List ℕ). TookList text z d × Stops scan z.1) (ok_is ([], text) y p.1) (
                  record {
                    leads = λ us end h. subst (λ (z : List Token). Leads scan text z end) (sym (tokens_none us)) h;
                    deep = (let z = height_none in omega arith);
                  },
                  record { token = x.0; rest = x.1; here = here; ends = p.0 },
                )
            | inr p ↦
                let c = bind_ok (read_one (statements n) scan d x.0 text x.1) _ y p.1 in
                let i = bind_ok (statements n d c.0.1) _ y c.2 in
                let shorter = progress scan text x.0 x.1 here p.0 in
                let s = one_ok (statements n) n law d x.0 text x.1 le (omega arith) here c.0 c.1 in
                let less = first_lt c.0.0 text c.0.1 d s in
                let more = law.took d c.0.1 i.0 le (omega arith) i.1 in
                let stop = law.stops d c.0.1 i.0 le (omega arith) i.1 in
                subst (λ (z : List S × List ℕ). TookList text z d × Stops scan z.1) (ok_is (c.0.0 ∷ i.0.0, i.0.1) y i.2) (
                  record {
                    leads = λ us end h. subst (λ (z : List Token). Leads scan text z end) (tokens_first c.0.0 i.0.0 us)
                        (s.leads (tokens (tree_of i.0.0) us) end (more.leads us end h));
                    deep = deep_first c.0.0 i.0.0 d s.deep more.deep;
                  },
                  stop,
                )
          ]

      turn_fails : (f : SyntaxFault) → (x : Token × List ℕ) → front scan text ≡ Ok (x.0, x.1) → turn n d text x ≡ Err f → Stuck scan g [] d text f
      turn_fails f x here e =
          elim (chosen (ends_list x.0) _ _ (Err f) e) [
            | inl p ↦ absurd (let q = p.1 in cc)
            | inr p ↦
                let shorter = progress scan text x.0 x.1 here p.0 in
                elim (bind_err (read_one (statements n) scan d x.0 text x.1) _ f p.1) [
                  | inl q ↦ one_err (statements n) n law d x.0 text x.1 le (omega arith) here f p.0 q
                  | inr c ↦
                      let s = one_ok (statements n) n law d x.0 text x.1 le (omega arith) here c.0 c.1 in
                      let less = first_lt c.0.0 text c.0.1 d s in
                      behind_tree (one c.0.0) d text c.0.1 f s
                      (elim (bind_err (statements n d c.0.1) _ f c.2) [
                        | inl q ↦ law.fails d c.0.1 f le (omega arith) q
                        | inr i ↦ absurd (let q = i.2 in cc)
                      ])
                ]
          ]

    lawful : (n : ℕ) → Laws (statements n) n
    unfolding listed_by
    lawful zero = record {
      took = λ d text y le lt e. absurd (omega arith);
      stops = λ d text y le lt e. absurd (omega arith);
      fails = λ d text f le lt e. absurd (omega arith);
    }
    lawful (suc n) = record {
      took = λ d text y le lt e. (let b = bind_ok (front scan text) (turn n d text) y e in (turn_took n (lawful n) d text le lt y b.0 b.1 b.2).0);
      stops = λ d text y le lt e. (let b = bind_ok (front scan text) (turn n d text) y e in (turn_took n (lawful n) d text le lt y b.0 b.1 b.2).1);
      fails = λ d text f le lt e.
          elim (bind_err (front scan text) (turn n d text) f e) [
            | inl p ↦ none_here scan g [] d text f le p
            | inr b ↦ turn_fails n (lawful n) d text le lt f b.0 b.1 b.2
          ];
    }

    -- ---- whole texts

    ended_ok : (items : List S) (text : List ℕ) (t : Token) (ss : List S) → ended_at scan items text t ≡ Ok ss → (t ≡ the_end) × (items ≡ ss)
    ended_ok items text the_end p e = (refl, ok_is _ p e)
    ended_ok items text (sign q) p e = absurd cc
    ended_ok items text (word q) p e = absurd cc
    ended_ok items text (name q) p e = absurd cc
    ended_ok items text (number q) p e = absurd cc

    ended_err : (items : List S) (text : List ℕ) (t : Token) (f : SyntaxFault) → ended_at scan items text t ≡ Err f → ends_list t ≡ true →
        (first_step g 0 t ≡ None) × (f ≡ unexpected scan text)
    ended_err items text the_end f e b = absurd cc
    ended_err items text (sign CloseBrace) f e b = (refl, cc)
    ended_err items text (sign Equals) f e b = absurd cc
    ended_err items text (sign OpenParen) f e b = absurd cc
    ended_err items text (sign CloseParen) f e b = absurd cc
    ended_err items text (sign Comma) f e b = absurd cc
    ended_err items text (sign Semicolon) f e b = absurd cc
    ended_err items text (sign OpenBrace) f e b = absurd cc
    ended_err items text (sign Plus) f e b = absurd cc
    ended_err items text (sign Minus) f e b = absurd cc
    ended_err items text (word q) f e b = absurd cc
    ended_err items text (name q) f e b = absurd cc
    ended_err items text (number q) f e b = absurd cc

    pub whole_ok : (text : List ℕ) (ss : List S) → whole_by read_one scan text ≡ Ok ss → ReadBody Tree tokens height scan text (tree_of ss)
    unfolding whole_by
    whole_ok text ss e =
        let a = bind_ok (statements (length text + 1) 0 text) _ ss e in
        let b = bind_ok (front scan a.0.1) _ ss a.2 in
        let z = ended_ok a.0.0 a.0.1 b.0.0 ss b.2 in
        let law = lawful (length text + 1) in
        let t = law.took 0 text a.0 (omega arith) (omega arith) a.1 in
        subst (λ (q : List S). ReadBody Tree tokens height scan text (tree_of q)) z.1
        record {
          reads = t.leads (the_end ∷ []) []
              ([], b.1 ∙ ap (λ (x : Token). Ok (x, b.0.1)) z.0 ∙ ap (λ (x : List ℕ). Ok (the_end, x)) (end_stays scan a.0.1 b.0.0 b.0.1 b.1 z.0), refl);
          shallow = (let q = t.deep in omega arith);
        }

    pub whole_err : (text : List ℕ) (f : SyntaxFault) → whole_by read_one scan text ≡ Err f → Stuck scan g [] 0 text f
    unfolding whole_by
    whole_err text f e =
        let law = lawful (length text + 1) in
        elim (bind_err (statements (length text + 1) 0 text) _ f e) [
          | inl p ↦ law.fails 0 text f (omega arith) (omega arith) p
          | inr a ↦
              let t = law.took 0 text a.0 (omega arith) (omega arith) a.1 in
              let st = law.stops 0 text a.0 (omega arith) (omega arith) a.1 in
              behind_tree (tree_of a.0.0) 0 text a.0.1 f t
              (elim (bind_err (front scan a.0.1) _ f a.2) [
                | inl p ↦ none_here scan g [] 0 a.0.1 f (omega arith) p
                | inr b ↦
                    let same : b.0.0 ≡ st.token = (ok_pair b.0 (st.token, st.rest) (sym b.1 ∙ st.here)).0 in
                    let z = ended_err a.0.0 a.0.1 b.0.0 f b.2 (ap ends_list same ∙ st.ends) in
                    refused scan g [] 0 a.0.1 f (omega arith) record { token = b.0.0; rest = b.0.1; here = b.1; no_step = z.0; fault_is = z.1 }
              ])
        ]
