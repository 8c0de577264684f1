-- Reading names in braces gives names of the grammar, or the place where the machine is stuck.
use Rattle.std.proofs.Common.{◌≡◌, ℕ, zero, suc, ◌+◌, ◌<◌, ◌≤◌, true, false, cond, List, [], ◌∷◌, length, Some, None, Result, Ok, Err, refl, sym, ap, subst, ◌∙◌, arith, inl, inr}
use Rattle.pl_syntax.specs.declared.scan.Scan.{Scan}
use Rattle.pl_syntax.specs.declared.limits.TheConstants.{MAX_OPEN_BRACES}
use Rattle.pl_syntax.specs.declared.token.Sign.TheVariants.{CloseParen, Comma, Equals, OpenParen, Semicolon, OpenBrace, CloseBrace, Plus, Minus}
use Rattle.pl_syntax.specs.declared.fault.SyntaxFault.{SyntaxFault}
use Rattle.pl_syntax.specs.Tokens.{Token, the_end, sign, word, name, number, front, Leads}
use Rattle.pl_syntax.specs.Grammar.{StaysShallow, open_after}
use Rattle.pl_syntax.specs.inside.Reading.{◌>>=◌, unexpected, sign_at, listed_by}
use Rattle.pl_syntax.proofs.Fronts.{chosen, front_le, further}
use Rattle.pl_syntax.proofs.Machine.{Shape, a_name, some_names, more_names, at, step, run}
use Rattle.pl_syntax.proofs.Leaves.{bind_ok, bind_err, ok_is, Stuck, none_here, refused, behind, name_ok, name_err, sign_ok, sign_fault}
use Rattle.clock_syntax.specs.Grammar.{names_tokens}
use Rattle.clock_syntax.specs.inside.ClockReading.{closes_names, comma_name, later_names_at, names_behind, names_in, names_at}
use Rattle.clock_syntax.proofs.ClockBegun.{clock_firsts, run_names}

-- `, x` for each of these names
abbrev pub comma_tokens : List (List ℕ) → List Token → List Token
comma_tokens [] rest = rest
comma_tokens (x ∷ xs) rest = sign Comma ∷ name x ∷ comma_tokens xs rest

-- a name and more behind it
pub name_first : (x : List ℕ) (xs : List (List ℕ)) (rest : List Token) → name x ∷ comma_tokens xs rest ≡ names_tokens (x ∷ xs) rest
name_first x [] rest = refl
name_first x (y ∷ ys) rest = ap (λ (ts : List Token). name x ∷ sign Comma ∷ ts) (name_first y ys rest)

module _ (scan : Scan) where
  abbrev Read : Type 0
  Read = Result (List (List ℕ) × List ℕ) SyntaxFault

  -- names were read up to a `)`
  abbrev TookNames : List ℕ → List (List ℕ) × List ℕ → Type 0
  TookNames text y =
      (rest : List ℕ) × (front scan y.1 ≡ Ok (sign CloseParen, rest))
      × ((us : List Token) (end : List ℕ) → Leads scan y.1 us end → Leads scan text (comma_tokens y.0 us) end)

  closes_is : (t : Token) → closes_names t ≡ true → t ≡ sign CloseParen
  closes_is (sign CloseParen) e = refl
  closes_is (sign Equals) e = absurd cc
  closes_is (sign OpenParen) e = absurd cc
  closes_is (sign Comma) e = absurd cc
  closes_is (sign Semicolon) e = absurd cc
  closes_is (sign OpenBrace) e = absurd cc
  closes_is (sign CloseBrace) e = absurd cc
  closes_is (sign Plus) e = absurd cc
  closes_is (sign Minus) e = absurd cc
  closes_is the_end e = absurd cc
  closes_is (word w) e = absurd cc
  closes_is (name x) e = absurd cc
  closes_is (number n) e = absurd cc

  -- a name behind a comma was read
  abbrev TookComma : Token → List ℕ → List ℕ × List ℕ → Type 0
  TookComma t text y = (t ≡ sign Comma) × (front scan text ≡ Ok (name y.0, y.1))

  abbrev NameBody : Type 0
  NameBody = ℕ → List ℕ → Read

  pub comma_ok : (body : NameBody) (t : Token) (before text : List ℕ) (y : List ℕ × List ℕ) → comma_name body scan 0 t before text ≡ Ok y → TookComma t text y
  comma_ok body (sign Comma) before text y e = (refl, name_ok scan text y e)
  comma_ok body _ before text y e = absurd cc

  -- what the machine says of a token that is neither `,` nor `)`
  comma_err : (body : NameBody) (ss : List Shape) (d : ℕ) (t : Token) (before text : List ℕ) (f : SyntaxFault) → d ≤ MAX_OPEN_BRACES → front scan before ≡ Ok (t, text) →
      closes_names t ≡ false → comma_name body scan 0 t before text ≡ Err f → Stuck scan clock_firsts (more_names ∷ ss) d before f
  comma_err body ss d (sign Comma) before text f le here goes e =
      behind scan clock_firsts (more_names ∷ ss) d before (sign Comma ∷ []) (a_name ∷ more_names ∷ ss) d text f (text, here, refl) refl (le, le) refl
      (name_err scan clock_firsts (more_names ∷ ss) d text f le e)
  comma_err body ss d (sign CloseParen) before text f le here goes e = absurd cc
  comma_err body ss d (sign Equals) before text f le here goes e = refused scan clock_firsts (more_names ∷ ss) d before f le record { token = sign Equals; rest = text; here = here; no_step = refl; fault_is = cc }
  comma_err body ss d (sign OpenParen) before text f le here goes e = refused scan clock_firsts (more_names ∷ ss) d before f le record { token = sign OpenParen; rest = text; here = here; no_step = refl; fault_is = cc }
  comma_err body ss d (sign Semicolon) before text f le here goes e = refused scan clock_firsts (more_names ∷ ss) d before f le record { token = sign Semicolon; rest = text; here = here; no_step = refl; fault_is = cc }
  comma_err body ss d (sign OpenBrace) before text f le here goes e = refused scan clock_firsts (more_names ∷ ss) d before f le record { token = sign OpenBrace; rest = text; here = here; no_step = refl; fault_is = cc }
  comma_err body ss d (sign CloseBrace) before text f le here goes e = refused scan clock_firsts (more_names ∷ ss) d before f le record { token = sign CloseBrace; rest = text; here = here; no_step = refl; fault_is = cc }
  comma_err body ss d (sign Plus) before text f le here goes e = refused scan clock_firsts (more_names ∷ ss) d before f le record { token = sign Plus; rest = text; here = here; no_step = refl; fault_is = cc }
  comma_err body ss d (sign Minus) before text f le here goes e = refused scan clock_firsts (more_names ∷ ss) d before f le record { token = sign Minus; rest = text; here = here; no_step = refl; fault_is = cc }
  comma_err body ss d the_end before text f le here goes e = refused scan clock_firsts (more_names ∷ ss) d before f le record { token = the_end; rest = text; here = here; no_step = refl; fault_is = cc }
  comma_err body ss d (word w) before text f le here goes e = refused scan clock_firsts (more_names ∷ ss) d before f le record { token = word w; rest = text; here = here; no_step = refl; fault_is = cc }
  comma_err body ss d (name x) before text f le here goes e = refused scan clock_firsts (more_names ∷ ss) d before f le record { token = name x; rest = text; here = here; no_step = refl; fault_is = cc }
  comma_err body ss d (number n) before text f le here goes e = refused scan clock_firsts (more_names ∷ ss) d before f le record { token = number n; rest = text; here = here; no_step = refl; fault_is = cc }

  pub is_comma : (t : Token) → t ≡ sign Comma → t ≡ the_end → ⊥
  is_comma t p q = let r : sign Comma ≡ the_end = sym p ∙ q in cc

  abbrev turn : ℕ → List ℕ → Token × List ℕ → Read
  turn n text x =
      cond (closes_names x.0) (Ok ([], text))
      (comma_name (listed_by closes_names comma_name n scan) scan 0 x.0 text x.1 >>= λ s.
      later_names_at n scan s.1 >>= λ more. Ok (s.0 ∷ more.0, more.1))

  -- names behind a first one
  pub later_ok : (n : ℕ) (text : List ℕ) (y : List (List ℕ) × List ℕ) → length text < n → later_names_at n scan text ≡ Ok y → TookNames text y
  unfolding listed_by
  later_ok zero text y lt e = absurd (omega arith)
  later_ok (suc n) text y lt e =
      let b = bind_ok (front scan text) (turn n text) y e in
      elim (chosen (closes_names b.0.0) _ _ (Ok y) b.2) [
        | inl p ↦
            subst (λ (z : List (List ℕ) × List ℕ). TookNames text z) (ok_is ([], text) y p.1)
            (b.0.1, b.1 ∙ ap (λ (t : Token). Ok (t, b.0.1)) (closes_is b.0.0 p.0), λ us end h. h)
        | inr p ↦
            let c = bind_ok (comma_name (listed_by closes_names comma_name n scan) scan 0 b.0.0 text b.0.1) _ y p.1 in
            let i = bind_ok (later_names_at n scan c.0.1) _ y c.2 in
            let k = comma_ok (listed_by closes_names comma_name n scan) b.0.0 text b.0.1 c.0 c.1 in
            let shorter = further scan text b.0.0 b.0.1 b.1 (is_comma b.0.0 k.0) in
            let less = front_le scan b.0.1 (name c.0.0) c.0.1 k.1 in
            let more = later_ok n c.0.1 i.0 (omega arith) i.1 in
            subst (λ (z : List (List ℕ) × List ℕ). TookNames text z) (ok_is (c.0.0 ∷ i.0.0, i.0.1) y i.2) (
              more.0,
              more.1,
              λ us end h. (b.0.1, b.1 ∙ ap (λ (t : Token). Ok (t, b.0.1)) k.0, (c.0.1, k.1, more.2 us end h)),
            )
      ]

  pub later_err : (n : ℕ) (ss : List Shape) (d : ℕ) (text : List ℕ) (f : SyntaxFault) → d ≤ MAX_OPEN_BRACES → length text < n → later_names_at n scan text ≡ Err f →
      Stuck scan clock_firsts (more_names ∷ ss) d text f
  unfolding listed_by
  later_err zero ss d text f le lt e = absurd (omega arith)
  later_err (suc n) ss d text f le lt e =
      elim (bind_err (front scan text) (turn n text) f e) [
        | inl p ↦ none_here scan clock_firsts (more_names ∷ ss) d text f le p
        | inr b ↦ elim (chosen (closes_names b.0.0) _ _ (Err f) b.2) [
          | inl p ↦ absurd (let q = p.1 in cc)
          | inr p ↦ elim (bind_err (comma_name (listed_by closes_names comma_name n scan) scan 0 b.0.0 text b.0.1) _ f p.1) [
            | inl q ↦ comma_err (listed_by closes_names comma_name n scan) ss d b.0.0 text b.0.1 f le b.1 p.0 q
            | inr c ↦
                let k = comma_ok (listed_by closes_names comma_name n scan) b.0.0 text b.0.1 c.0 c.1 in
                let shorter = further scan text b.0.0 b.0.1 b.1 (is_comma b.0.0 k.0) in
                let less = front_le scan b.0.1 (name c.0.0) c.0.1 k.1 in
                behind scan clock_firsts (more_names ∷ ss) d text (sign Comma ∷ name c.0.0 ∷ []) (more_names ∷ ss) d c.0.1 f
                (b.0.1, b.1 ∙ ap (λ (t : Token). Ok (t, b.0.1)) k.0, (c.0.1, k.1, refl)) refl (le, (le, le)) refl
                (elim (bind_err (later_names_at n scan c.0.1) _ f c.2) [
                  | inl q ↦ later_err n ss d c.0.1 f le (omega arith) q
                  | inr i ↦ absurd (let q = i.2 in cc)
                ])
          ]
        ]
      ]

  -- ---- names behind `(`

  -- names and their `)` were read
  abbrev TookAll : List ℕ → List (List ℕ) × List ℕ → Type 0
  TookAll text y = (us : List Token) (end : List ℕ) → Leads scan y.1 us end → Leads scan text (names_tokens y.0 (sign CloseParen ∷ us)) end

  behind_name_ok : (x : List ℕ) (before text : List ℕ) (y : List (List ℕ) × List ℕ) → front scan before ≡ Ok (name x, text) → names_behind x scan text ≡ Ok y →
      TookAll before y
  unfolding names_behind
  behind_name_ok x before text y here e =
      let a = bind_ok (later_names_at (length text + 1) scan text) _ y e in
      let c = bind_ok (sign_at scan CloseParen a.0.1) _ y a.2 in
      let l = later_ok (length text + 1) text a.0 (omega arith) a.1 in
      subst (λ (z : List (List ℕ) × List ℕ). TookAll before z) (ok_is (x ∷ a.0.0, c.0) y c.2)
      (λ us end h. subst (λ (ts : List Token). Leads scan before ts end) (name_first x a.0.0 (sign CloseParen ∷ us))
      (text, here, l.2 (sign CloseParen ∷ us) end (c.0, sign_ok scan CloseParen a.0.1 c.0 c.1, h)))

  in_ok : (text : List ℕ) (t : Token) (rest : List ℕ) (y : List (List ℕ) × List ℕ) → front scan text ≡ Ok (t, rest) → names_in scan text t rest ≡ Ok y → TookAll text y
  in_ok text (sign CloseParen) rest y here e =
      subst (λ (z : List (List ℕ) × List ℕ). TookAll text z) (ok_is ([], rest) y e) (λ us end h. (rest, here, h))
  in_ok text (name x) rest y here e = behind_name_ok x text rest y here e
  in_ok text _ rest y here e = absurd cc

  pub names_ok : (text : List ℕ) (y : List (List ℕ) × List ℕ) → names_at scan text ≡ Ok y → TookAll text y
  unfolding names_at
  names_ok text y e =
      let b = bind_ok (front scan text) (λ x. names_in scan text x.0 x.1) y e in
      in_ok text b.0.0 b.0.1 y b.1 b.2

  comma_shallow : (xs : List (List ℕ)) (d : ℕ) → d ≤ MAX_OPEN_BRACES → (rest : List Token) → StaysShallow d rest → StaysShallow d (comma_tokens xs rest)
  comma_shallow [] d le rest h = h
  comma_shallow (x ∷ xs) d le rest h = (le, (le, comma_shallow xs d le rest h))

  comma_flat : (xs : List (List ℕ)) (d : ℕ) (rest : List Token) → open_after d (comma_tokens xs rest) ≡ open_after d rest
  comma_flat [] d rest = refl
  comma_flat (x ∷ xs) d rest = comma_flat xs d rest

  comma_runs : (xs : List (List ℕ)) (ss : List Shape) (d : ℕ) → run clock_firsts (at (more_names ∷ ss) d) (comma_tokens xs []) ≡ Some (at (more_names ∷ ss) d)
  comma_runs [] ss d = refl
  comma_runs (x ∷ xs) ss d = comma_runs xs ss d

  behind_name_err : (x : List ℕ) (ss : List Shape) (d : ℕ) (before text : List ℕ) (f : SyntaxFault) → d ≤ MAX_OPEN_BRACES → front scan before ≡ Ok (name x, text) →
      names_behind x scan text ≡ Err f → Stuck scan clock_firsts (some_names ∷ ss) d before f
  unfolding names_behind
  behind_name_err x ss d before text f le here e =
      behind scan clock_firsts (some_names ∷ ss) d before (name x ∷ []) (more_names ∷ ss) d text f (text, here, refl) refl (le, le) refl
      (elim (bind_err (later_names_at (length text + 1) scan text) _ f e) [
        | inl p ↦ later_err (length text + 1) ss d text f le (omega arith) p
        | inr a ↦
            let l = later_ok (length text + 1) text a.0 (omega arith) a.1 in
            behind scan clock_firsts (more_names ∷ ss) d text (comma_tokens a.0.0 []) (more_names ∷ ss) d a.0.1 f (l.2 [] a.0.1 refl)
            (comma_runs a.0.0 ss d) (comma_shallow a.0.0 d le [] le) (comma_flat a.0.0 d [])
            (elim (bind_err (sign_at scan CloseParen a.0.1) _ f a.2) [
              | inl p ↦ absurd (let c = sign_fault scan CloseParen a.0.1 (sign CloseParen) l.0 f l.1 p in let q : true ≡ false = c.0 in cc)
              | inr c ↦ absurd (let q = c.2 in cc)
            ])
      ])

  wrong_name : (ss : List Shape) (d : ℕ) (text : List ℕ) (t : Token) (rest : List ℕ) (f : SyntaxFault) → d ≤ MAX_OPEN_BRACES → front scan text ≡ Ok (t, rest) →
      step clock_firsts (at (some_names ∷ ss) d) t ≡ None → ◌≡◌ {A = Read} (Err (unexpected scan text)) (Err f) → Stuck scan clock_firsts (some_names ∷ ss) d text f
  wrong_name ss d text t rest f le here stops e =
      refused scan clock_firsts (some_names ∷ ss) d text f le record { token = t; rest = rest; here = here; no_step = stops; fault_is = cc }

  in_err : (ss : List Shape) (d : ℕ) (text : List ℕ) (t : Token) (rest : List ℕ) (f : SyntaxFault) → d ≤ MAX_OPEN_BRACES → front scan text ≡ Ok (t, rest) →
      names_in scan text t rest ≡ Err f → Stuck scan clock_firsts (some_names ∷ ss) d text f
  in_err ss d text (sign CloseParen) rest f le here e = absurd cc
  in_err ss d text (name x) rest f le here e = behind_name_err x ss d text rest f le here e
  in_err ss d text (sign Equals) rest f le here e = wrong_name ss d text (sign Equals) rest f le here refl e
  in_err ss d text (sign OpenParen) rest f le here e = wrong_name ss d text (sign OpenParen) rest f le here refl e
  in_err ss d text (sign Comma) rest f le here e = wrong_name ss d text (sign Comma) rest f le here refl e
  in_err ss d text (sign Semicolon) rest f le here e = wrong_name ss d text (sign Semicolon) rest f le here refl e
  in_err ss d text (sign OpenBrace) rest f le here e = wrong_name ss d text (sign OpenBrace) rest f le here refl e
  in_err ss d text (sign CloseBrace) rest f le here e = wrong_name ss d text (sign CloseBrace) rest f le here refl e
  in_err ss d text (sign Plus) rest f le here e = wrong_name ss d text (sign Plus) rest f le here refl e
  in_err ss d text (sign Minus) rest f le here e = wrong_name ss d text (sign Minus) rest f le here refl e
  in_err ss d text the_end rest f le here e = wrong_name ss d text the_end rest f le here refl e
  in_err ss d text (word w) rest f le here e = wrong_name ss d text (word w) rest f le here refl e
  in_err ss d text (number n) rest f le here e = wrong_name ss d text (number n) rest f le here refl e

  pub names_err : (ss : List Shape) (d : ℕ) (text : List ℕ) (f : SyntaxFault) → d ≤ MAX_OPEN_BRACES → names_at scan text ≡ Err f →
      Stuck scan clock_firsts (some_names ∷ ss) d text f
  unfolding names_at
  names_err ss d text f le e =
      elim (bind_err (front scan text) (λ x. names_in scan text x.0 x.1) f e) [
        | inl p ↦ none_here scan clock_firsts (some_names ∷ ss) d text f le p
        | inr b ↦ in_err ss d text b.0.0 b.0.1 f le b.1 b.2
      ]

  pub names_shallow : (xs : List (List ℕ)) (d : ℕ) → d ≤ MAX_OPEN_BRACES → (rest : List Token) → StaysShallow d rest → StaysShallow d (names_tokens xs (sign CloseParen ∷ rest))
  names_shallow [] d le rest h = (le, h)
  names_shallow (x ∷ xs) d le rest h =
      subst (λ (ts : List Token). StaysShallow d ts) (name_first x xs (sign CloseParen ∷ rest)) (le, comma_shallow xs d le (sign CloseParen ∷ rest) (le, h))

  names_flat : (xs : List (List ℕ)) (d : ℕ) → open_after d (names_tokens xs (sign CloseParen ∷ [])) ≡ d
  names_flat [] d = refl
  names_flat (x ∷ xs) d =
      ap (open_after d) (sym (name_first x xs (sign CloseParen ∷ []))) ∙ comma_flat xs d (sign CloseParen ∷ [])

  -- behind names and their `)`
  pub after_names : (ss : List Shape) (d : ℕ) (text : List ℕ) (y : List (List ℕ) × List ℕ) (f : SyntaxFault) → d ≤ MAX_OPEN_BRACES → names_at scan text ≡ Ok y →
      Stuck scan clock_firsts ss d y.1 f → Stuck scan clock_firsts (some_names ∷ ss) d text f
  after_names ss d text y f le e stuck =
      behind scan clock_firsts (some_names ∷ ss) d text (names_tokens y.0 (sign CloseParen ∷ [])) ss d y.1 f (names_ok text y e [] y.1 refl)
      (run_names y.0 ss d []) (names_shallow y.0 d le [] le) (names_flat y.0 d) stuck
