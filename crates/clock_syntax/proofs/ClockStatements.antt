-- Reading a statement gives the tree of it, or the place where the machine is stuck.
use Rattle.std.proofs.Common.{◌≡◌, ℕ, ◌+◌, ◌-◌, ◌≤◌, true, false, List, [], ◌∷◌, ◌++◌, Some, None, Ok, Err, refl, ap, subst, arith, inl, inr}
use Rattle.pl_syntax.specs.declared.scan.Scan.{Scan}
use Rattle.pl_syntax.specs.declared.limits.TheConstants.{MAX_OPEN_BRACES}
use Rattle.pl_syntax.specs.declared.statement.Begun.{Begun}
use Rattle.pl_syntax.specs.declared.statement.Begun.TheVariants.{Whole, Head}
use Rattle.pl_syntax.specs.declared.token.Keyword.{Keyword}
use Rattle.pl_syntax.specs.declared.token.Keyword.TheVariants as k
use Rattle.pl_syntax.specs.declared.token.Sign.TheVariants.{OpenParen, CloseParen, Comma, Semicolon, OpenBrace, CloseBrace}
use Rattle.pl_syntax.specs.declared.fault.SyntaxFault.{SyntaxFault}
use Rattle.pl_syntax.specs.Tokens.{Token, the_end, sign, word, name, number, front}
use Rattle.pl_syntax.specs.Grammar.{with_name, StaysShallow}
use Rattle.pl_syntax.specs.inside.Reading.{unexpected, sign_at, name_at, whole_by, ends_list}
use Rattle.pl_syntax.specs.inside.Statements.{named_by, statement_at}
use Rattle.pl_syntax.proofs.Machine.{some_names, at, first_step, s_end, s_named}
use Rattle.pl_syntax.proofs.Leaves.{after_sign, after_name, name_ok, name_err, bind_ok, bind_err, ok_is, Stuck, sign_ok, sign_err, refused}
use Rattle.pl_syntax.proofs.Blocks.{ReadBody, TookBegun, goes_first, is_own, begun, flat_took, named_took, named_stuck, whole_ok, whole_err}
use Rattle.clock_syntax.specs.declared.reader.ClockHead.{ClockHead}
use Rattle.clock_syntax.specs.declared.reader.ClockHead.TheVariants as h
use Rattle.clock_syntax.specs.declared.tree.ClockStmt.{ClockStmt}
use Rattle.clock_syntax.specs.declared.tree.ClockStmt.TheVariants as s
use Rattle.clock_syntax.specs.Trees.{ClockPlain, clock, advance, resume, drop, skip, ClockTree, done, plain, async, finish, loop, clock_height}
use Rattle.clock_syntax.specs.calls.Bodies.{clock_followed_by, clock_tree_of}
use Rattle.clock_syntax.specs.Grammar.{names_tokens, clock_plain_tokens, clock_tokens}
use Rattle.clock_syntax.specs.inside.ClockReading.{ClockRead, clock_at, names_at, async_at, clock_begun, clock_holding, clock_stmts}
use Rattle.clock_syntax.proofs.ClockBegun.{clock_firsts, run_clock_tree, s_clock, s_body, s_async}
use Rattle.clock_syntax.proofs.ClockNames.{names_ok, names_err, after_names, names_shallow}

-- ---- trees

stays_plain : (c : ClockPlain) (d : ℕ) (rest : List Token) → d ≤ MAX_OPEN_BRACES → StaysShallow d rest → StaysShallow d (clock_plain_tokens c rest)
stays_plain (clock x) d rest le h = (le, (le, (le, h)))
stays_plain (advance x) d rest le h = (le, (le, (le, (le, (le, h)))))
stays_plain (resume x) d rest le h = (le, (le, (le, (le, (le, h)))))
stays_plain (drop x) d rest le h = (le, (le, (le, (le, (le, h)))))
stays_plain skip d rest le h = (le, (le, h))

module _ (scan : Scan) where
  pub clock_stays : (p : ClockTree) (d : ℕ) (rest : List Token) → clock_height p + d ≤ MAX_OPEN_BRACES → StaysShallow d rest → StaysShallow d (clock_tokens p rest)
  clock_stays done d rest le h = h
  clock_stays (plain c p) d rest le h = stays_plain c d (clock_tokens p rest) (omega arith) (clock_stays p d rest le h)
  clock_stays (async xs b p) d rest le h =
      let l : d ≤ MAX_OPEN_BRACES = omega arith in
      let after_body : StaysShallow (d + 1) (sign CloseBrace ∷ clock_tokens p rest) = (omega arith, (let e : d + 1 - 1 ≡ d = omega arith in rw e (clock_stays p d rest (omega arith) h))) in (
        l,
        (
          l,
          names_shallow scan xs d l (sign OpenBrace ∷ clock_tokens b (sign CloseBrace ∷ clock_tokens p rest))
              (l, clock_stays b (d + 1) (sign CloseBrace ∷ clock_tokens p rest) (omega arith) after_body),
        ),
      )
  clock_stays (finish b p) d rest le h =
      let l : d ≤ MAX_OPEN_BRACES = omega arith in
      let after_body : StaysShallow (d + 1) (sign CloseBrace ∷ clock_tokens p rest) = (omega arith, (let e : d + 1 - 1 ≡ d = omega arith in rw e (clock_stays p d rest (omega arith) h))) in
      (l, (l, clock_stays b (d + 1) (sign CloseBrace ∷ clock_tokens p rest) (omega arith) after_body))
  clock_stays (loop n b p) d rest le h =
      let l : d ≤ MAX_OPEN_BRACES = omega arith in
      let after_body : StaysShallow (d + 1) (sign CloseBrace ∷ clock_tokens p rest) = (omega arith, (let e : d + 1 - 1 ≡ d = omega arith in rw e (clock_stays p d rest (omega arith) h))) in
      (l, (l, (l, clock_stays b (d + 1) (sign CloseBrace ∷ clock_tokens p rest) (omega arith) after_body)))

-- a statement and those after it
clock_tokens_first : (q : ClockStmt) (p : ClockTree) (us : List Token) → clock_tokens (clock_followed_by q done) (clock_tokens p us) ≡ clock_tokens (clock_followed_by q p) us
clock_tokens_first (s.Clock x) p us = refl
clock_tokens_first (s.Advance x) p us = refl
clock_tokens_first (s.Resume x) p us = refl
clock_tokens_first (s.Drop x) p us = refl
clock_tokens_first s.Skip p us = refl
clock_tokens_first (s.Async xs b) p us = refl
clock_tokens_first (s.Finish b) p us = refl
clock_tokens_first (s.Loop n b) p us = refl

clock_deep_first : (q : ClockStmt) (p : ClockTree) (d : ℕ) → clock_height (clock_followed_by q done) + d ≤ MAX_OPEN_BRACES → clock_height p + d ≤ MAX_OPEN_BRACES →
    clock_height (clock_followed_by q p) + d ≤ MAX_OPEN_BRACES
clock_deep_first (s.Clock x) p d a b = b
clock_deep_first (s.Advance x) p d a b = b
clock_deep_first (s.Resume x) p d a b = b
clock_deep_first (s.Drop x) p d a b = b
clock_deep_first s.Skip p d a b = b
clock_deep_first (s.Async xs q) p d a b = omega arith
clock_deep_first (s.Finish q) p d a b = omega arith
clock_deep_first (s.Loop n q) p d a b = omega arith

clock_tokens_go : (q : ClockStmt) → goes_first (clock_tokens (clock_followed_by q done) []) ≡ true
clock_tokens_go (s.Clock x) = refl
clock_tokens_go (s.Advance x) = refl
clock_tokens_go (s.Resume x) = refl
clock_tokens_go (s.Drop x) = refl
clock_tokens_go s.Skip = refl
clock_tokens_go (s.Async xs b) = refl
clock_tokens_go (s.Finish b) = refl
clock_tokens_go (s.Loop n b) = refl

-- ---- what was read

-- the first token of what stands before a body
abbrev first_of : ClockHead → Token
first_of (h.Async xs) = word k.Async
first_of h.Finish = word k.Finish
first_of (h.Loop n) = word k.Loop

-- and those behind it
abbrev behind_first : ClockHead → List Token
behind_first (h.Async xs) = sign OpenParen ∷ names_tokens xs (sign CloseParen ∷ [])
behind_first h.Finish = []
behind_first (h.Loop n) = number n ∷ []

-- a statement alone
abbrev alone : ClockStmt → ClockTree
alone s = clock_followed_by s done

height_held : (h : ClockHead) (ss : List ClockStmt) → clock_height (alone (clock_holding h ss)) ≡ clock_height (clock_tree_of ss) + 1
height_held (h.Async xs) ss = omega arith
height_held h.Finish ss = omega arith
height_held (h.Loop n) ss = omega arith

names_more : (xs : List (List ℕ)) (us : List Token) → names_tokens xs (sign CloseParen ∷ []) ++ us ≡ names_tokens xs (sign CloseParen ∷ us)
names_more [] us = refl
names_more (x ∷ []) us = refl
names_more (x ∷ y ∷ ys) us = ap (λ (ts : List Token). name x ∷ sign Comma ∷ ts) (names_more (y ∷ ys) us)

tokens_held : (h : ClockHead) (ss : List ClockStmt) (us : List Token) →
    first_of h ∷ (behind_first h ++ (sign OpenBrace ∷ clock_tokens (clock_tree_of ss) (sign CloseBrace ∷ us))) ≡ clock_tokens (alone (clock_holding h ss)) us
tokens_held (h.Async xs) ss us = ap (λ (ts : List Token). word k.Async ∷ sign OpenParen ∷ ts) (names_more xs _)
tokens_held h.Finish ss us = refl
tokens_held (h.Loop n) ss us = refl

module _ (scan : Scan) where
  abbrev StmtTook : Token → List ℕ → List ℕ → Begun ClockStmt ClockHead × List ℕ → ℕ → Type 0
  StmtTook t before text y d = TookBegun ClockStmt ClockHead ClockTree clock_tokens clock_height clock_firsts alone first_of behind_first scan t before text y.0 y.1 d

  make_ok : (d : ℕ) (before text : List ℕ) (y : Begun ClockStmt ClockHead × List ℕ) → d ≤ MAX_OPEN_BRACES → front scan before ≡ Ok (word k.Clock, text) → clock_at scan text ≡ Ok y →
      StmtTook (word k.Clock) before text y d
  unfolding clock_at
  make_ok d before text y le here e =
      let a = bind_ok (name_at scan text) _ y e in
      let b = bind_ok (sign_at scan Semicolon a.0.1) _ y a.2 in
      subst (λ (z : Begun ClockStmt ClockHead × List ℕ). StmtTook (word k.Clock) before text z d) (ok_is (Whole (s.Clock a.0.0), b.0) y b.2)
      (flat_took scan ClockTree clock_tokens clock_height (plain (clock a.0.0) done) (word k.Clock) (name a.0.0 ∷ sign Semicolon ∷ []) d before text b.0 refl le here
      (a.0.1, name_ok scan text a.0 a.1, (b.0, sign_ok scan Semicolon a.0.1 b.0 b.1, refl)) (λ us. refl))

  make_err : (d : ℕ) (before text : List ℕ) (f : SyntaxFault) → d ≤ MAX_OPEN_BRACES → front scan before ≡ Ok (word k.Clock, text) → clock_at scan text ≡ Err f →
      Stuck scan clock_firsts [] d before f
  unfolding clock_at
  make_err d before text f le here e =
      begun scan clock_firsts (word k.Clock) s_clock d before text f le here refl refl
      (elim (bind_err (name_at scan text) _ f e) [
        | inl p ↦ name_err scan clock_firsts s_end d text f le p
        | inr a ↦ after_name scan clock_firsts s_end d text a.0 f le a.1
            (elim (bind_err (sign_at scan Semicolon a.0.1) _ f a.2) [
              | inl p ↦ sign_err scan clock_firsts Semicolon [] d a.0.1 f le p
              | inr b ↦ absurd (let q = b.2 in cc)
            ])
      ])

  async_ok : (d : ℕ) (before text : List ℕ) (y : Begun ClockStmt ClockHead × List ℕ) → d ≤ MAX_OPEN_BRACES → front scan before ≡ Ok (word k.Async, text) →
      async_at scan text ≡ Ok y → StmtTook (word k.Async) before text y d
  unfolding async_at
  async_ok d before text y le here e =
      let o = bind_ok (sign_at scan OpenParen text) _ y e in
      let a = bind_ok (names_at scan o.0) _ y o.2 in
      subst (λ (z : Begun ClockStmt ClockHead × List ℕ). StmtTook (word k.Async) before text z d) (ok_is (Head (h.Async a.0.0), a.0.1) y a.2) (
        refl,
        (o.0, sign_ok scan OpenParen text o.0 o.1, names_ok scan o.0 a.0 a.1 [] a.0.1 refl),
        λ f stuck.
            begun scan clock_firsts (word k.Async) s_async d before text f le here refl refl
            (after_sign scan clock_firsts OpenParen (some_names ∷ s_body) d text o.0 f refl le o.1 (after_names scan s_body d o.0 a.0 f le a.1 stuck)),
      )

  async_err : (d : ℕ) (before text : List ℕ) (f : SyntaxFault) → d ≤ MAX_OPEN_BRACES → front scan before ≡ Ok (word k.Async, text) → async_at scan text ≡ Err f →
      Stuck scan clock_firsts [] d before f
  unfolding async_at
  async_err d before text f le here e =
      begun scan clock_firsts (word k.Async) s_async d before text f le here refl refl
      (elim (bind_err (sign_at scan OpenParen text) _ f e) [
        | inl p ↦ sign_err scan clock_firsts OpenParen (some_names ∷ s_body) d text f le p
        | inr o ↦ after_sign scan clock_firsts OpenParen (some_names ∷ s_body) d text o.0 f refl le o.1
            (elim (bind_err (names_at scan o.0) _ f o.2) [
              | inl p ↦ names_err scan s_body d o.0 f le p
              | inr a ↦ absurd (let q = a.2 in cc)
            ])
      ])

  named_begun : (make : List ℕ → ClockStmt) (w : Keyword) (d : ℕ) (before text : List ℕ) (y : Begun ClockStmt ClockHead × List ℕ) → d ≤ MAX_OPEN_BRACES →
      front scan before ≡ Ok (word w, text) → ((x : List ℕ) → clock_height (alone (make x)) ≡ 0)
      → ((x : List ℕ) (us : List Token) → word w ∷ with_name x (sign Semicolon ∷ us) ≡ clock_tokens (alone (make x)) us) → named_by make scan text ≡ Ok y
      → StmtTook (word w) before text y d
  named_begun make w d before text y le here flat spelled e =
      named_took scan ClockStmt ClockHead ClockTree clock_tokens clock_height clock_firsts alone first_of behind_first make w d before text le here y flat spelled e

  -- ---- any statement

  begun_ok : (d : ℕ) (t : Token) (before text : List ℕ) (y : Begun ClockStmt ClockHead × List ℕ) → d ≤ MAX_OPEN_BRACES → front scan before ≡ Ok (t, text) →
      clock_begun scan t before text ≡ Ok y → StmtTook t before text y d
  begun_ok d (word k.Clock) before text y le here e = make_ok d before text y le here e
  begun_ok d (word k.Advance) before text y le here e = named_begun s.Advance k.Advance d before text y le here (λ x. refl) (λ x us. refl) e
  begun_ok d (word k.Resume) before text y le here e = named_begun s.Resume k.Resume d before text y le here (λ x. refl) (λ x us. refl) e
  begun_ok d (word k.Drop) before text y le here e = named_begun s.Drop k.Drop d before text y le here (λ x. refl) (λ x us. refl) e
  begun_ok d (word k.Async) before text y le here e = async_ok d before text y le here e
  begun_ok d (word k.Finish) before text y le here e =
      subst (λ (z : Begun ClockStmt ClockHead × List ℕ). StmtTook (word k.Finish) before text z d) (ok_is (Head h.Finish, text) y e)
      (refl, refl, λ f stuck. begun scan clock_firsts (word k.Finish) s_body d before text f le here refl refl stuck)
  begun_ok d _ before text y le here e = absurd cc

  wrong : (t : Token) (d : ℕ) (before text : List ℕ) (f : SyntaxFault) → d ≤ MAX_OPEN_BRACES → front scan before ≡ Ok (t, text) → first_step clock_firsts d t ≡ None →
      ◌≡◌ {A = ClockRead} (Err (unexpected scan before)) (Err f) → Stuck scan clock_firsts [] d before f
  wrong t d before text f le here stops e = refused scan clock_firsts [] d before f le record { token = t; rest = text; here = here; no_step = stops; fault_is = cc }

  named_err_at : (make : List ℕ → ClockStmt) (w : Keyword) (d : ℕ) (before text : List ℕ) (f : SyntaxFault) → d ≤ MAX_OPEN_BRACES → front scan before ≡ Ok (word w, text)
      → first_step clock_firsts d (word w) ≡ Some (at s_named d) → named_by {S = ClockStmt} {H = ClockHead} make scan text ≡ Err f → Stuck scan clock_firsts [] d before f
  named_err_at make w d before text f le here steps e =
      named_stuck scan ClockStmt ClockHead ClockTree clock_tokens clock_height clock_firsts alone first_of behind_first make w d before text le here f steps e

  begun_err : (d : ℕ) (t : Token) (before text : List ℕ) (f : SyntaxFault) → d ≤ MAX_OPEN_BRACES → front scan before ≡ Ok (t, text) → ends_list t ≡ false →
      is_own t ≡ true → clock_begun scan t before text ≡ Err f → Stuck scan clock_firsts [] d before f
  begun_err d (word k.Clock) before text f le here goes own e = make_err d before text f le here e
  begun_err d (word k.Advance) before text f le here goes own e = named_err_at s.Advance k.Advance d before text f le here refl e
  begun_err d (word k.Resume) before text f le here goes own e = named_err_at s.Resume k.Resume d before text f le here refl e
  begun_err d (word k.Drop) before text f le here goes own e = named_err_at s.Drop k.Drop d before text f le here refl e
  begun_err d (word k.Async) before text f le here goes own e = async_err d before text f le here e
  begun_err d (word k.Finish) before text f le here goes own e = absurd cc
  begun_err d (word k.Skip) before text f le here goes own e = absurd cc
  begun_err d (word k.Loop) before text f le here goes own e = absurd cc
  begun_err d the_end before text f le here goes own e = absurd cc
  begun_err d (sign CloseBrace) before text f le here goes own e = absurd cc
  begun_err d t before text f le here goes own e = wrong t d before text f le here refl e

  -- ---- lists of statements

  pub clock_stmts_ok : (text : List ℕ) (ss : List ClockStmt) → whole_by (statement_at clock_stmts) scan text ≡ Ok ss →
      ReadBody ClockTree clock_tokens clock_height scan text (clock_tree_of ss)
  clock_stmts_ok text ss e =
      whole_ok ClockStmt ClockTree clock_tokens clock_height clock_tree_of clock_firsts scan run_clock_tree (clock_stays scan) alone (λ us. refl) refl
      (λ s ss us. clock_tokens_first s (clock_tree_of ss) us) (λ s ss d a b. clock_deep_first s (clock_tree_of ss) d a b) clock_tokens_go ClockHead clock_stmts first_of
      behind_first refl refl refl (λ us. refl) (λ n. refl) (λ n. refl) height_held tokens_held begun_ok begun_err text ss e

  pub clock_stmts_err : (text : List ℕ) (f : SyntaxFault) → whole_by (statement_at clock_stmts) scan text ≡ Err f → Stuck scan clock_firsts [] 0 text f
  clock_stmts_err text f e =
      whole_err ClockStmt ClockTree clock_tokens clock_height clock_tree_of clock_firsts scan run_clock_tree (clock_stays scan) alone (λ us. refl) refl
      (λ s ss us. clock_tokens_first s (clock_tree_of ss) us) (λ s ss d a b. clock_deep_first s (clock_tree_of ss) d a b) clock_tokens_go ClockHead clock_stmts first_of
      behind_first refl refl refl (λ us. refl) (λ n. refl) (λ n. refl) height_held tokens_held begun_ok begun_err text f e
