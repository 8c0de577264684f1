-- The same of statements, bodies and texts.
use Rattle.std.proofs.Common.{◌≡◌, ℕ, ◌+◌, ◌-◌, ◌≤◌, Bool, true, false, List, [], ◌∷◌, ◌++◌, None, Ok, Err, refl, ap, subst, arith, inl, inr}
use Rattle.pl_syntax.specs.declared.scan.Scan.{Scan}
use Rattle.pl_syntax.specs.declared.limits.TheConstants.{MAX_OPEN_BRACES}
use Rattle.armus_base.specs.declared.offset.Offset.{Offset}
use Rattle.armus_base.specs.declared.offset.Offset.TheVariants.{Ahead, Back, Here}
use Rattle.pl_syntax.specs.declared.token.Keyword.TheVariants as k
use Rattle.pl_syntax.specs.declared.token.Sign.TheVariants.{Equals, OpenParen, CloseParen, Comma, Semicolon, OpenBrace, CloseBrace}
use Rattle.pl_syntax.specs.declared.fault.SyntaxFault.{SyntaxFault}
use Rattle.pl_syntax.specs.declared.reader.StmtHead.{StmtHead}
use Rattle.pl_syntax.specs.declared.reader.StmtHead.TheVariants as h
use Rattle.pl_syntax.specs.declared.statement.Begun.{Begun}
use Rattle.pl_syntax.specs.declared.statement.Begun.TheVariants.{Whole, Head}
use Rattle.pl_syntax.specs.declared.tree.Stmt.{Stmt}
use Rattle.pl_syntax.specs.declared.tree.Stmt.TheVariants as s
use Rattle.pl_syntax.specs.Tokens.{Token, the_end, sign, word, name, number, front, Leads}
use Rattle.pl_syntax.specs.Tree.{Tree, done, plain, fork, loop, Plain, new_task, new_phaser, reg, dereg, adv, await, skip, height}
use Rattle.pl_syntax.specs.calls.Bodies.{followed_by, tree_of}
use Rattle.pl_syntax.specs.Grammar.{tokens, with_name, offset_tokens, plain_tokens, StaysShallow}
use Rattle.pl_syntax.specs.inside.Reading.{unexpected, sign_at, name_at, offset_at, in_parens_at, pair_at, drawn_at, ends_list}
use Rattle.pl_syntax.specs.inside.PlReading.{StmtRead, drawn_stmt, drawing_at, reg_at, await_at, fork_at, stmt_begun, stmt_holding, stmts, stmts_at}
use Rattle.pl_syntax.proofs.Machine.{a_sign, a_name, an_offset, first_step}
use Rattle.pl_syntax.proofs.Begun.{firsts, run_tree, s_await, s_drawn, s_pair, s_fork}
use Rattle.pl_syntax.proofs.Blocks as blocks
use Rattle.pl_syntax.proofs.Blocks.{Took, goes_first, is_own, begun, flat_took, named_took, named_stuck, whole_ok, whole_err}
use Rattle.pl_syntax.proofs.Leaves.{after_sign, after_name, name_ok, name_err, bind_ok, bind_err, ok_is, Stuck, maker_of, sign_ok, sign_err, refused}
use Rattle.pl_syntax.proofs.Groups.{offset_leads, offset_err, after_offset, in_parens_ok, in_parens_err, after_parens, pair_ok, pair_err, drawn_ok, drawn_err}

-- ---- trees

stays_plain : (c : Plain) (d : ℕ) (rest : List Token) → d ≤ MAX_OPEN_BRACES → StaysShallow d rest → StaysShallow d (plain_tokens c rest)
stays_plain (new_task x) d rest le h = (le, (le, (le, (le, (le, (le, h))))))
stays_plain (new_phaser x) d rest le h = (le, (le, (le, (le, (le, (le, h))))))
stays_plain (reg x y) d rest le h = (le, (le, (le, (le, (le, (le, (le, h)))))))
stays_plain (dereg x) d rest le h = (le, (le, (le, (le, (le, h)))))
stays_plain (adv x) d rest le h = (le, (le, (le, (le, (le, h)))))
stays_plain (await x Here) d rest le h = (le, (le, (le, (le, (le, h)))))
stays_plain (await x (Back k)) d rest le h = (le, (le, (le, (le, (le, (le, (le, h)))))))
stays_plain (await x (Ahead k)) d rest le h = (le, (le, (le, (le, (le, (le, (le, h)))))))
stays_plain skip d rest le h = (le, (le, h))

pub stays : (p : Tree) (d : ℕ) (rest : List Token) → height p + d ≤ MAX_OPEN_BRACES → StaysShallow d rest → StaysShallow d (tokens p rest)
stays done d rest le h = h
stays (plain c p) d rest le h = stays_plain c d (tokens p rest) (omega arith) (stays p d rest le h)
stays (fork x b p) d rest le h =
    let l : d ≤ MAX_OPEN_BRACES = omega arith in
    let after_body : StaysShallow (d + 1) (sign CloseBrace ∷ tokens p rest) = (omega arith, (let e : d + 1 - 1 ≡ d = omega arith in rw e (stays p d rest (omega arith) h))) in
    (l, (l, (l, (l, (l, stays b (d + 1) (sign CloseBrace ∷ tokens p rest) (omega arith) after_body)))))
stays (loop n b p) d rest le h =
    let l : d ≤ MAX_OPEN_BRACES = omega arith in
    let after_body : StaysShallow (d + 1) (sign CloseBrace ∷ tokens p rest) = (omega arith, (let e : d + 1 - 1 ≡ d = omega arith in rw e (stays p d rest (omega arith) h))) in
    (l, (l, (l, stays b (d + 1) (sign CloseBrace ∷ tokens p rest) (omega arith) after_body)))

-- a statement and those after it
tokens_first : (s : Stmt) (p : Tree) (us : List Token) → tokens (followed_by s done) (tokens p us) ≡ tokens (followed_by s p) us
tokens_first (s.NewTask x) p us = refl
tokens_first (s.NewPhaser x) p us = refl
tokens_first (s.Reg x y) p us = refl
tokens_first (s.Dereg x) p us = refl
tokens_first (s.Adv x) p us = refl
tokens_first (s.Await x off) p us = refl
tokens_first s.Skip p us = refl
tokens_first (s.Fork x b) p us = refl
tokens_first (s.Loop n b) p us = refl

deep_first : (s : Stmt) (p : Tree) (d : ℕ) → height (followed_by s done) + d ≤ MAX_OPEN_BRACES → height p + d ≤ MAX_OPEN_BRACES → height (followed_by s p) + d ≤ MAX_OPEN_BRACES
deep_first (s.NewTask x) p d a b = b
deep_first (s.NewPhaser x) p d a b = b
deep_first (s.Reg x y) p d a b = b
deep_first (s.Dereg x) p d a b = b
deep_first (s.Adv x) p d a b = b
deep_first (s.Await x off) p d a b = b
deep_first s.Skip p d a b = b
deep_first (s.Fork x q) p d a b = omega arith
deep_first (s.Loop n q) p d a b = omega arith

tokens_go : (q : Stmt) → goes_first (tokens (followed_by q done) []) ≡ true
tokens_go (s.NewTask x) = refl
tokens_go (s.NewPhaser x) = refl
tokens_go (s.Reg x y) = refl
tokens_go (s.Dereg x) = refl
tokens_go (s.Adv x) = refl
tokens_go (s.Await x off) = refl
tokens_go s.Skip = refl
tokens_go (s.Fork x b) = refl
tokens_go (s.Loop n b) = refl

-- ---- what was read

-- the first token of what stands before a body
abbrev first_of : StmtHead → Token
first_of (h.Fork x) = word k.Fork
first_of (h.Loop n) = word k.Loop

-- and those behind it
abbrev behind_first : StmtHead → List Token
behind_first (h.Fork x) = with_name x []
behind_first (h.Loop n) = number n ∷ []

-- a statement alone
abbrev alone : Stmt → Tree
alone s = followed_by s done

height_held : (h : StmtHead) (ss : List Stmt) → height (alone (stmt_holding h ss)) ≡ height (tree_of ss) + 1
height_held (h.Fork x) ss = omega arith
height_held (h.Loop n) ss = omega arith

tokens_held : (h : StmtHead) (ss : List Stmt) (us : List Token) →
    first_of h ∷ (behind_first h ++ (sign OpenBrace ∷ tokens (tree_of ss) (sign CloseBrace ∷ us))) ≡ tokens (alone (stmt_holding h ss)) us
tokens_held (h.Fork x) ss us = refl
tokens_held (h.Loop n) ss us = refl

module _ (scan : Scan) where
  abbrev StmtTook : Token → List ℕ → List ℕ → Begun Stmt StmtHead × List ℕ → ℕ → Type 0
  StmtTook t before text y d = blocks.TookBegun Stmt StmtHead Tree tokens height firsts alone first_of behind_first scan t before text y.0 y.1 d

  -- ---- `x = newTid ( ) ;` and the like

  drawn_plain : (x : List ℕ) (made : Bool) (d : ℕ) (before text rest : List ℕ) → d ≤ MAX_OPEN_BRACES → front scan before ≡ Ok (name x, text)
      → Leads scan text (sign Equals ∷ maker_of scan made ∷ sign OpenParen ∷ sign CloseParen ∷ sign Semicolon ∷ []) rest →
      Took Tree tokens height scan before (alone (drawn_stmt x made)) rest d
  drawn_plain x true d before text rest le here leads = flat_took scan Tree tokens height (plain (new_task x) done) (name x)
      (sign Equals ∷ maker_of scan true ∷ sign OpenParen ∷ sign CloseParen ∷ sign Semicolon ∷ []) d before text rest refl le here leads (λ us. refl)
  drawn_plain x false d before text rest le here leads = flat_took scan Tree tokens height (plain (new_phaser x) done) (name x)
      (sign Equals ∷ maker_of scan false ∷ sign OpenParen ∷ sign CloseParen ∷ sign Semicolon ∷ []) d before text rest refl le here leads (λ us. refl)

  drawing_ok : (x : List ℕ) (d : ℕ) (before text : List ℕ) (y : Begun Stmt StmtHead × List ℕ) → d ≤ MAX_OPEN_BRACES → front scan before ≡ Ok (name x, text) →
      drawing_at scan x text ≡ Ok y → StmtTook (name x) before text y d
  unfolding drawing_at
  drawing_ok x d before text y le here e =
      let b = bind_ok (drawn_at scan text) _ y e in
      subst (λ (z : Begun Stmt StmtHead × List ℕ). StmtTook (name x) before text z d) (ok_is (Whole (drawn_stmt x b.0.0), b.0.1) y b.2)
      (drawn_plain x b.0.0 d before text b.0.1 le here (drawn_ok scan text b.0 b.1))

  drawing_err : (x : List ℕ) (d : ℕ) (before text : List ℕ) (f : SyntaxFault) → d ≤ MAX_OPEN_BRACES → front scan before ≡ Ok (name x, text) →
      drawing_at scan x text ≡ Err f → Stuck scan firsts [] d before f
  unfolding drawing_at
  drawing_err x d before text f le here e =
      elim (bind_err (drawn_at scan text) _ f e) [
        | inl p ↦ begun scan firsts (name x) s_drawn d before text f le here refl refl (drawn_err scan firsts d text f le p)
        | inr b ↦ absurd (let q = b.2 in cc)
      ]

  await_ok : (d : ℕ) (before text : List ℕ) (y : Begun Stmt StmtHead × List ℕ) → d ≤ MAX_OPEN_BRACES → front scan before ≡ Ok (word k.Await, text) →
      await_at scan text ≡ Ok y → StmtTook (word k.Await) before text y d
  unfolding await_at
  await_ok d before text y le here e =
      let a = bind_ok (sign_at scan OpenParen text) _ y e in
      let b = bind_ok (name_at scan a.0) _ y a.2 in
      let o = bind_ok (offset_at scan b.0.1) _ y b.2 in
      let c = bind_ok (sign_at scan Semicolon o.0.1) _ y o.2 in
      subst (λ (z : Begun Stmt StmtHead × List ℕ). StmtTook (word k.Await) before text z d) (ok_is (Whole (s.Await b.0.0 o.0.0), c.0) y c.2)
      (flat_took scan Tree tokens height (plain (await b.0.0 o.0.0) done) (word k.Await) (sign OpenParen ∷ name b.0.0 ∷ offset_tokens o.0.0 (sign CloseParen ∷ sign Semicolon ∷ [])) d before text c.0 refl le here (
        a.0,
        sign_ok scan OpenParen text a.0 a.1,
        (b.0.1, name_ok scan a.0 b.0 b.1, offset_leads scan b.0.1 o.0 (sign Semicolon ∷ []) c.0 o.1 (c.0, sign_ok scan Semicolon o.0.1 c.0 c.1, refl)),
      )
      (λ us. ap (λ (x : List Token). word k.Await ∷ sign OpenParen ∷ name b.0.0 ∷ x) (offset_more o.0.0 us)))
    where
      offset_more : (off : Offset) (us : List Token) →
          offset_tokens off (sign CloseParen ∷ sign Semicolon ∷ []) ++ us ≡ offset_tokens off (sign CloseParen ∷ sign Semicolon ∷ us)
      offset_more Here us = refl
      offset_more (Back k) us = refl
      offset_more (Ahead k) us = refl

  await_err : (d : ℕ) (before text : List ℕ) (f : SyntaxFault) → d ≤ MAX_OPEN_BRACES → front scan before ≡ Ok (word k.Await, text) →
      await_at scan text ≡ Err f → Stuck scan firsts [] d before f
  unfolding await_at
  await_err d before text f le here e =
      begun scan firsts (word k.Await) s_await d before text f le here refl refl
      (elim (bind_err (sign_at scan OpenParen text) _ f e) [
        | inl p ↦ sign_err scan firsts OpenParen (a_name ∷ an_offset ∷ a_sign Semicolon ∷ []) d text f le p
        | inr a ↦ after_sign scan firsts OpenParen (a_name ∷ an_offset ∷ a_sign Semicolon ∷ []) d text a.0 f refl le a.1
            (elim (bind_err (name_at scan a.0) _ f a.2) [
              | inl p ↦ name_err scan firsts (an_offset ∷ a_sign Semicolon ∷ []) d a.0 f le p
              | inr b ↦ after_name scan firsts (an_offset ∷ a_sign Semicolon ∷ []) d a.0 b.0 f le b.1
                  (elim (bind_err (offset_at scan b.0.1) _ f b.2) [
                    | inl p ↦ offset_err scan firsts (a_sign Semicolon ∷ []) d b.0.1 f le p
                    | inr o ↦ after_offset scan firsts (a_sign Semicolon ∷ []) d b.0.1 o.0 f le o.1
                        (elim (bind_err (sign_at scan Semicolon o.0.1) _ f o.2) [
                          | inl p ↦ sign_err scan firsts Semicolon [] d o.0.1 f le p
                          | inr c ↦ absurd (let q = c.2 in cc)
                        ])
                  ])
            ])
      ])

  reg_ok : (d : ℕ) (before text : List ℕ) (y : Begun Stmt StmtHead × List ℕ) → d ≤ MAX_OPEN_BRACES → front scan before ≡ Ok (word k.Reg, text) → reg_at scan text ≡ Ok y → StmtTook (word k.Reg) before text y d
  unfolding reg_at
  reg_ok d before text y le here e =
      let b = bind_ok (pair_at scan text) _ y e in
      subst (λ (z : Begun Stmt StmtHead × List ℕ). StmtTook (word k.Reg) before text z d) (ok_is (Whole (s.Reg b.0.0 b.0.1), b.0.2) y b.2)
      (flat_took scan Tree tokens height (plain (reg b.0.0 b.0.1) done) (word k.Reg) (sign OpenParen ∷ name b.0.0 ∷ sign Comma ∷ name b.0.1 ∷ sign CloseParen ∷ sign Semicolon ∷ []) d before text
      b.0.2 refl le here (pair_ok scan text b.0 b.1) (λ us. refl))

  reg_err : (d : ℕ) (before text : List ℕ) (f : SyntaxFault) → d ≤ MAX_OPEN_BRACES → front scan before ≡ Ok (word k.Reg, text) → reg_at scan text ≡ Err f → Stuck scan firsts [] d before f
  unfolding reg_at
  reg_err d before text f le here e =
      elim (bind_err (pair_at scan text) _ f e) [
        | inl p ↦ begun scan firsts (word k.Reg) s_pair d before text f le here refl refl (pair_err scan firsts d text f le p)
        | inr b ↦ absurd (let q = b.2 in cc)
      ]

  fork_ok : (d : ℕ) (before text : List ℕ) (y : Begun Stmt StmtHead × List ℕ) → d ≤ MAX_OPEN_BRACES → front scan before ≡ Ok (word k.Fork, text) → fork_at scan text ≡ Ok y →
      StmtTook (word k.Fork) before text y d
  unfolding fork_at
  fork_ok d before text y le here e =
      let a = bind_ok (in_parens_at scan text) _ y e in
      subst (λ (z : Begun Stmt StmtHead × List ℕ). StmtTook (word k.Fork) before text z d) (ok_is (Head (h.Fork a.0.0), a.0.1) y a.2) (
        refl,
        in_parens_ok scan text a.0 a.1,
        λ f stuck.
            begun scan firsts (word k.Fork) s_fork d before text f le here refl refl (after_parens scan firsts (a_sign OpenBrace ∷ []) d text a.0 f le a.1 stuck),
      )

  fork_err : (d : ℕ) (before text : List ℕ) (f : SyntaxFault) → d ≤ MAX_OPEN_BRACES → front scan before ≡ Ok (word k.Fork, text) → fork_at scan text ≡ Err f →
      Stuck scan firsts [] d before f
  unfolding fork_at
  fork_err d before text f le here e =
      begun scan firsts (word k.Fork) s_fork d before text f le here refl refl
      (elim (bind_err (in_parens_at scan text) _ f e) [
        | inl p ↦ in_parens_err scan firsts (a_sign OpenBrace ∷ []) d text f le p
        | inr a ↦ absurd (let q = a.2 in cc)
      ])

  -- ---- any statement

  begun_ok : (d : ℕ) (t : Token) (before text : List ℕ) (y : Begun Stmt StmtHead × List ℕ) → d ≤ MAX_OPEN_BRACES → front scan before ≡ Ok (t, text) →
      stmt_begun scan t before text ≡ Ok y → StmtTook t before text y d
  begun_ok d (name x) before text y le here e = drawing_ok x d before text y le here e
  begun_ok d (word k.Reg) before text y le here e = reg_ok d before text y le here e
  begun_ok d (word k.Dereg) before text y le here e =
      named_took scan Stmt StmtHead Tree tokens height firsts alone first_of behind_first s.Dereg k.Dereg d before text le here y (λ x. refl) (λ x us. refl) e
  begun_ok d (word k.Adv) before text y le here e =
      named_took scan Stmt StmtHead Tree tokens height firsts alone first_of behind_first s.Adv k.Adv d before text le here y (λ x. refl) (λ x us. refl) e
  begun_ok d (word k.Await) before text y le here e = await_ok d before text y le here e
  begun_ok d (word k.Fork) before text y le here e = fork_ok d before text y le here e
  begun_ok d _ before text y le here e = absurd cc

  wrong : (t : Token) (d : ℕ) (before text : List ℕ) (f : SyntaxFault) → d ≤ MAX_OPEN_BRACES → front scan before ≡ Ok (t, text) → first_step firsts d t ≡ None →
      ◌≡◌ {A = StmtRead} (Err (unexpected scan before)) (Err f) → Stuck scan firsts [] d before f
  wrong t d before text f le here stops e = refused scan firsts [] d before f le record { token = t; rest = text; here = here; no_step = stops; fault_is = cc }

  begun_err : (d : ℕ) (t : Token) (before text : List ℕ) (f : SyntaxFault) → d ≤ MAX_OPEN_BRACES → front scan before ≡ Ok (t, text) → ends_list t ≡ false →
      is_own t ≡ true → stmt_begun scan t before text ≡ Err f → Stuck scan firsts [] d before f
  begun_err d (name x) before text f le here goes own e = drawing_err x d before text f le here e
  begun_err d (word k.Reg) before text f le here goes own e = reg_err d before text f le here e
  begun_err d (word k.Dereg) before text f le here goes own e =
      named_stuck scan Stmt StmtHead Tree tokens height firsts alone first_of behind_first s.Dereg k.Dereg d before text le here f refl e
  begun_err d (word k.Adv) before text f le here goes own e =
      named_stuck scan Stmt StmtHead Tree tokens height firsts alone first_of behind_first s.Adv k.Adv d before text le here f refl e
  begun_err d (word k.Await) before text f le here goes own e = await_err d before text f le here e
  begun_err d (word k.Fork) before text f le here goes own e = fork_err d before text f le here e
  begun_err d (word k.Skip) before text f le here goes own e = absurd cc
  begun_err d (word k.Loop) before text f le here goes own e = absurd cc
  begun_err d the_end before text f le here goes own e = absurd cc
  begun_err d (sign CloseBrace) before text f le here goes own e = absurd cc
  begun_err d t before text f le here goes own e = wrong t d before text f le here refl e

  -- ---- lists of statements

  abbrev pub ReadBody : List ℕ → Tree → Type 0
  ReadBody text p = blocks.ReadBody Tree tokens height scan text p

  pub stmts_ok : (text : List ℕ) (ss : List Stmt) → stmts_at scan text ≡ Ok ss → ReadBody text (tree_of ss)
  stmts_ok text ss e =
      whole_ok Stmt Tree tokens height tree_of firsts scan run_tree stays alone (λ us. refl) refl (λ s ss us. tokens_first s (tree_of ss) us)
      (λ s ss d a b. deep_first s (tree_of ss) d a b) tokens_go StmtHead stmts first_of behind_first refl refl refl (λ us. refl) (λ n. refl) (λ n. refl) height_held tokens_held
      begun_ok begun_err text ss e

  pub stmts_err : (text : List ℕ) (f : SyntaxFault) → stmts_at scan text ≡ Err f → Stuck scan firsts [] 0 text f
  stmts_err text f e =
      whole_err Stmt Tree tokens height tree_of firsts scan run_tree stays alone (λ us. refl) refl (λ s ss us. tokens_first s (tree_of ss) us)
      (λ s ss d a b. deep_first s (tree_of ss) d a b) tokens_go StmtHead stmts first_of behind_first refl refl refl (λ us. refl) (λ n. refl) (λ n. refl) height_held tokens_held
      begun_ok begun_err text f e
