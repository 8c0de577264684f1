-- The same of readers of several tokens.
use Rattle.std.proofs.Common.{◌≡◌, ℕ, ◌≤◌, Bool, Some, ap, List, [], ◌∷◌, Ok, Err, refl, subst, inl, inr}
use Rattle.pl_syntax.specs.declared.scan.Scan.{Scan}
use Rattle.pl_syntax.specs.declared.limits.TheConstants.{MAX_OPEN_BRACES}
use Rattle.pl_syntax.specs.declared.token.Sign.TheVariants.{Equals, OpenParen, CloseParen, Comma, Semicolon, Plus, Minus}
use Rattle.armus_base.specs.declared.offset.Offset.{Offset}
use Rattle.armus_base.specs.declared.offset.Offset.TheVariants.{Ahead, Back, Here}
use Rattle.pl_syntax.specs.declared.token.Sign.{Sign}
use Rattle.pl_syntax.specs.declared.fault.SyntaxFault.{SyntaxFault}
use Rattle.pl_syntax.specs.Grammar.{StaysShallow, offset_tokens, open_after, opened}
use Rattle.pl_syntax.specs.Tokens.{Token, front, sign, name, number, Leads}
use Rattle.pl_syntax.specs.inside.Reading.{far_at, offset_in, offset_at, number_at, sign_at, name_at, maker_at, in_parens_at, named_at, pair_at, drawn_at}
use Rattle.pl_syntax.proofs.Machine.{Firsts, at, run, step, an_offset, a_number, Shape, a_sign, a_name, a_maker, s_named}
use Rattle.pl_syntax.proofs.Begun.{s_drawn, s_pair}
use Rattle.pl_syntax.proofs.Leaves.{none_here, refused, number_ok, number_err, after_number, bind_ok, bind_err, ok_is, Stuck, behind, Leads-append, maker_of, sign_ok, sign_err, name_ok, name_err, maker_ok, maker_err, after_sign, after_name, after_maker}

module _ (scan : Scan) where
  pub in_parens_ok : (text : List ℕ) (y : List ℕ × List ℕ) → in_parens_at scan text ≡ Ok y → Leads scan text (sign OpenParen ∷ name y.0 ∷ sign CloseParen ∷ []) y.1
  unfolding in_parens_at
  in_parens_ok text y e =
      let a = bind_ok (sign_at scan OpenParen text) _ y e in
      let b = bind_ok (name_at scan a.0) _ y a.2 in
      let c = bind_ok (sign_at scan CloseParen b.0.1) _ y b.2 in
      subst (λ (z : List ℕ × List ℕ). Leads scan text (sign OpenParen ∷ name z.0 ∷ sign CloseParen ∷ []) z.1) (ok_is (b.0.0, c.0) y c.2)
      (a.0, sign_ok scan OpenParen text a.0 a.1, (b.0.1, name_ok scan a.0 b.0 b.1, (c.0, sign_ok scan CloseParen b.0.1 c.0 c.1, refl)))

  pub named_ok : (text : List ℕ) (y : List ℕ × List ℕ) → named_at scan text ≡ Ok y → Leads scan text (sign OpenParen ∷ name y.0 ∷ sign CloseParen ∷ sign Semicolon ∷ []) y.1
  unfolding named_at
  named_ok text y e =
      let a = bind_ok (in_parens_at scan text) _ y e in
      let c = bind_ok (sign_at scan Semicolon a.0.1) _ y a.2 in
      subst (λ (z : List ℕ × List ℕ). Leads scan text (sign OpenParen ∷ name z.0 ∷ sign CloseParen ∷ sign Semicolon ∷ []) z.1) (ok_is (a.0.0, c.0) y c.2)
      (Leads-append scan text (sign OpenParen ∷ name a.0.0 ∷ sign CloseParen ∷ []) a.0.1 (sign Semicolon ∷ []) c.0 (in_parens_ok text a.0 a.1)
      (c.0, sign_ok scan Semicolon a.0.1 c.0 c.1, refl))

  pub pair_ok : (text : List ℕ) (y : List ℕ × List ℕ × List ℕ) → pair_at scan text ≡ Ok y
      → Leads scan text (sign OpenParen ∷ name y.0 ∷ sign Comma ∷ name y.1 ∷ sign CloseParen ∷ sign Semicolon ∷ []) y.2
  unfolding pair_at
  pair_ok text y e =
      let a = bind_ok (sign_at scan OpenParen text) _ y e in
      let b = bind_ok (name_at scan a.0) _ y a.2 in
      let c = bind_ok (sign_at scan Comma b.0.1) _ y b.2 in
      let g = bind_ok (name_at scan c.0) _ y c.2 in
      let h = bind_ok (sign_at scan CloseParen g.0.1) _ y g.2 in
      let i = bind_ok (sign_at scan Semicolon h.0) _ y h.2 in
      subst (λ (z : List ℕ × List ℕ × List ℕ). Leads scan text (sign OpenParen ∷ name z.0 ∷ sign Comma ∷ name z.1 ∷ sign CloseParen ∷ sign Semicolon ∷ []) z.2)
      (ok_is (b.0.0, g.0.0, i.0) y i.2) (
        a.0,
        sign_ok scan OpenParen text a.0 a.1,
        (
          b.0.1,
          name_ok scan a.0 b.0 b.1,
          (
            c.0,
            sign_ok scan Comma b.0.1 c.0 c.1,
            (
              g.0.1,
              name_ok scan c.0 g.0 g.1,
              (h.0, sign_ok scan CloseParen g.0.1 h.0 h.1, (i.0, sign_ok scan Semicolon h.0 i.0 i.1, refl)),
            ),
          ),
        ),
      )

  pub drawn_ok : (text : List ℕ) (y : Bool × List ℕ) → drawn_at scan text ≡ Ok y
      → Leads scan text (sign Equals ∷ maker_of scan y.0 ∷ sign OpenParen ∷ sign CloseParen ∷ sign Semicolon ∷ []) y.1
  unfolding drawn_at
  drawn_ok text y e =
      let a = bind_ok (sign_at scan Equals text) _ y e in
      let b = bind_ok (maker_at scan a.0) _ y a.2 in
      let c = bind_ok (sign_at scan OpenParen b.0.1) _ y b.2 in
      let g = bind_ok (sign_at scan CloseParen c.0) _ y c.2 in
      let h = bind_ok (sign_at scan Semicolon g.0) _ y g.2 in
      subst (λ (z : Bool × List ℕ). Leads scan text (sign Equals ∷ maker_of scan z.0 ∷ sign OpenParen ∷ sign CloseParen ∷ sign Semicolon ∷ []) z.1) (ok_is (b.0.0, h.0) y h.2) (
        a.0,
        sign_ok scan Equals text a.0 a.1,
        (
          b.0.1,
          maker_ok scan a.0 b.0 b.1,
          (
            c.0,
            sign_ok scan OpenParen b.0.1 c.0 c.1,
            (
              g.0,
              sign_ok scan CloseParen c.0 g.0 g.1,
              (h.0, sign_ok scan Semicolon g.0 h.0 h.1, refl),
            ),
          ),
        ),
      )

  -- ---- an offset

  far_ok : (way : ℕ → Offset) (text : List ℕ) (y : Offset × List ℕ) → far_at scan way text ≡ Ok y
      → (k : ℕ) × (way k ≡ y.0) × Leads scan text (number k ∷ sign CloseParen ∷ []) y.1
  unfolding far_at
  far_ok way text y e =
      let a = bind_ok (number_at scan text) _ y e in
      let c = bind_ok (sign_at scan CloseParen a.0.1) _ y a.2 in
      let same = ok_is (way a.0.0, c.0) y c.2 in (
        a.0.0,
        ap (λ (z : Offset × List ℕ). z.0) same,
        subst (λ (z : List ℕ). Leads scan text (number a.0.0 ∷ sign CloseParen ∷ []) z) (ap (λ (z : Offset × List ℕ). z.1) same)
            (a.0.1, number_ok scan text a.0 a.1, (c.0, sign_ok scan CloseParen a.0.1 c.0 c.1, refl)),
      )

  -- the tokens of the offset, and its brace
  OffsetTook : List ℕ → Token → List ℕ → Offset × List ℕ → Type 0
  OffsetTook text t rest y = (us : List Token) (end : List ℕ) → front scan text ≡ Ok (t, rest) → Leads scan y.1 us end →
      Leads scan text (offset_tokens y.0 (sign CloseParen ∷ us)) end

  far_leads : (way : ℕ → Offset) (s : Sign) (text rest : List ℕ) (y : Offset × List ℕ)
      → ((n : ℕ) (us : List Token) → sign s ∷ number n ∷ us ≡ offset_tokens (way n) us) → far_at scan way rest ≡ Ok y → OffsetTook text (sign s) rest y
  unfolding OffsetTook
  far_leads way s text rest y spelled e us end here behind =
      let f = far_ok way rest y e in
      subst (λ (o : Offset). Leads scan text (offset_tokens o (sign CloseParen ∷ us)) end) f.1
      (subst (λ (x : List Token). Leads scan text x end) (spelled f.0 (sign CloseParen ∷ us))
      (rest, here, Leads-append scan rest (number f.0 ∷ sign CloseParen ∷ []) y.1 us end f.2 behind))

  in_leads : (text : List ℕ) (t : Token) (rest : List ℕ) (y : Offset × List ℕ) → offset_in scan text t rest ≡ Ok y → OffsetTook text t rest y
  unfolding OffsetTook
  in_leads text (sign CloseParen) rest y e us end here behind =
      let same = ok_is (Here, rest) y e in
      subst (λ (z : Offset × List ℕ). Leads scan z.1 us end → Leads scan text (offset_tokens z.0 (sign CloseParen ∷ us)) end) same
      (λ h. (rest, here, h)) behind
  in_leads text (sign Minus) rest y e us end here behind = far_leads Back Minus text rest y (λ n us. refl) e us end here behind
  in_leads text (sign Plus) rest y e us end here behind = far_leads Ahead Plus text rest y (λ n us. refl) e us end here behind
  in_leads text _ rest y e us end here behind = absurd cc

  pub offset_leads : (text : List ℕ) (y : Offset × List ℕ) (us : List Token) (end : List ℕ) → offset_at scan text ≡ Ok y → Leads scan y.1 us end
      → Leads scan text (offset_tokens y.0 (sign CloseParen ∷ us)) end
  unfolding offset_at OffsetTook
  offset_leads text y us end e behind =
      let b = bind_ok (front scan text) (λ x. offset_in scan text x.0 x.1) y e in
      in_leads text b.0.0 b.0.1 y b.2 us end b.1 behind

  offset_shallow : (off : Offset) (d : ℕ) → d ≤ MAX_OPEN_BRACES → StaysShallow d (offset_tokens off (sign CloseParen ∷ []))
  offset_shallow Here d le = (le, le)
  offset_shallow (Back k) d le = (le, (le, (le, le)))
  offset_shallow (Ahead k) d le = (le, (le, (le, le)))

  offset_flat : (off : Offset) (d : ℕ) → open_after d (offset_tokens off (sign CloseParen ∷ [])) ≡ d
  offset_flat Here d = refl
  offset_flat (Back k) d = refl
  offset_flat (Ahead k) d = refl

  -- ---- where the machine of a grammar stops

  module _ (g : Firsts) where
    pub in_parens_err : (ss : List Shape) (d : ℕ) (text : List ℕ) (f : SyntaxFault) → d ≤ MAX_OPEN_BRACES → in_parens_at scan text ≡ Err f →
        Stuck scan g (a_sign OpenParen ∷ a_name ∷ a_sign CloseParen ∷ ss) d text f
    unfolding in_parens_at
    in_parens_err ss d text f le e =
        elim (bind_err (sign_at scan OpenParen text) _ f e) [
          | inl p ↦ sign_err scan g OpenParen (a_name ∷ a_sign CloseParen ∷ ss) d text f le p
          | inr a ↦ after_sign scan g OpenParen (a_name ∷ a_sign CloseParen ∷ ss) d text a.0 f refl le a.1
              (elim (bind_err (name_at scan a.0) _ f a.2) [
                | inl p ↦ name_err scan g (a_sign CloseParen ∷ ss) d a.0 f le p
                | inr b ↦ after_name scan g (a_sign CloseParen ∷ ss) d a.0 b.0 f le b.1
                    (elim (bind_err (sign_at scan CloseParen b.0.1) _ f b.2) [
                      | inl p ↦ sign_err scan g CloseParen ss d b.0.1 f le p
                      | inr c ↦ absurd (let q = c.2 in cc)
                    ])
              ])
        ]

    -- behind `( x )`
    pub after_parens : (ss : List Shape) (d : ℕ) (text : List ℕ) (y : List ℕ × List ℕ) (f : SyntaxFault) → d ≤ MAX_OPEN_BRACES → in_parens_at scan text ≡ Ok y → Stuck scan g ss d y.1 f
        → Stuck scan g (a_sign OpenParen ∷ a_name ∷ a_sign CloseParen ∷ ss) d text f
    after_parens ss d text y f le e stuck =
        behind scan g (a_sign OpenParen ∷ a_name ∷ a_sign CloseParen ∷ ss) d text (sign OpenParen ∷ name y.0 ∷ sign CloseParen ∷ []) ss d y.1 f
        (in_parens_ok text y e) refl (le, (le, (le, le))) refl stuck

    pub named_err : (d : ℕ) (text : List ℕ) (f : SyntaxFault) → d ≤ MAX_OPEN_BRACES → named_at scan text ≡ Err f → Stuck scan g s_named d text f
    unfolding named_at
    named_err d text f le e =
        elim (bind_err (in_parens_at scan text) _ f e) [
          | inl p ↦ in_parens_err (a_sign Semicolon ∷ []) d text f le p
          | inr a ↦ after_parens (a_sign Semicolon ∷ []) d text a.0 f le a.1
              (elim (bind_err (sign_at scan Semicolon a.0.1) _ f a.2) [
                | inl p ↦ sign_err scan g Semicolon [] d a.0.1 f le p
                | inr c ↦ absurd (let q = c.2 in cc)
              ])
        ]

    pub pair_err : (d : ℕ) (text : List ℕ) (f : SyntaxFault) → d ≤ MAX_OPEN_BRACES → pair_at scan text ≡ Err f → Stuck scan g s_pair d text f
    unfolding pair_at
    pair_err d text f le e =
        elim (bind_err (sign_at scan OpenParen text) _ f e) [
          | inl p ↦ sign_err scan g OpenParen (a_name ∷ a_sign Comma ∷ a_name ∷ a_sign CloseParen ∷ a_sign Semicolon ∷ []) d text f le p
          | inr a ↦ after_sign scan g OpenParen (a_name ∷ a_sign Comma ∷ a_name ∷ a_sign CloseParen ∷ a_sign Semicolon ∷ []) d text a.0 f refl le a.1
              (elim (bind_err (name_at scan a.0) _ f a.2) [
                | inl p ↦ name_err scan g (a_sign Comma ∷ a_name ∷ a_sign CloseParen ∷ a_sign Semicolon ∷ []) d a.0 f le p
                | inr b ↦ after_name scan g (a_sign Comma ∷ a_name ∷ a_sign CloseParen ∷ a_sign Semicolon ∷ []) d a.0 b.0 f le b.1
                    (elim (bind_err (sign_at scan Comma b.0.1) _ f b.2) [
                      | inl p ↦ sign_err scan g Comma (a_name ∷ a_sign CloseParen ∷ a_sign Semicolon ∷ []) d b.0.1 f le p
                      | inr c ↦ after_sign scan g Comma (a_name ∷ a_sign CloseParen ∷ a_sign Semicolon ∷ []) d b.0.1 c.0 f refl le c.1
                          (elim (bind_err (name_at scan c.0) _ f c.2) [
                            | inl p ↦ name_err scan g (a_sign CloseParen ∷ a_sign Semicolon ∷ []) d c.0 f le p
                            | inr w ↦ after_name scan g (a_sign CloseParen ∷ a_sign Semicolon ∷ []) d c.0 w.0 f le w.1
                                (elim (bind_err (sign_at scan CloseParen w.0.1) _ f w.2) [
                                  | inl p ↦ sign_err scan g CloseParen (a_sign Semicolon ∷ []) d w.0.1 f le p
                                  | inr h ↦ after_sign scan g CloseParen (a_sign Semicolon ∷ []) d w.0.1 h.0 f refl le h.1
                                      (elim (bind_err (sign_at scan Semicolon h.0) _ f h.2) [
                                        | inl p ↦ sign_err scan g Semicolon [] d h.0 f le p
                                        | inr i ↦ absurd (let q = i.2 in cc)
                                      ])
                                ])
                          ])
                    ])
              ])
        ]

    pub drawn_err : (d : ℕ) (text : List ℕ) (f : SyntaxFault) → d ≤ MAX_OPEN_BRACES → drawn_at scan text ≡ Err f → Stuck scan g s_drawn d text f
    unfolding drawn_at
    drawn_err d text f le e =
        elim (bind_err (sign_at scan Equals text) _ f e) [
          | inl p ↦ sign_err scan g Equals (a_maker ∷ a_sign OpenParen ∷ a_sign CloseParen ∷ a_sign Semicolon ∷ []) d text f le p
          | inr a ↦ after_sign scan g Equals (a_maker ∷ a_sign OpenParen ∷ a_sign CloseParen ∷ a_sign Semicolon ∷ []) d text a.0 f refl le a.1
              (elim (bind_err (maker_at scan a.0) _ f a.2) [
                | inl p ↦ maker_err scan g (a_sign OpenParen ∷ a_sign CloseParen ∷ a_sign Semicolon ∷ []) d a.0 f le p
                | inr b ↦ after_maker scan g (a_sign OpenParen ∷ a_sign CloseParen ∷ a_sign Semicolon ∷ []) d a.0 b.0 f le b.1
                    (elim (bind_err (sign_at scan OpenParen b.0.1) _ f b.2) [
                      | inl p ↦ sign_err scan g OpenParen (a_sign CloseParen ∷ a_sign Semicolon ∷ []) d b.0.1 f le p
                      | inr c ↦ after_sign scan g OpenParen (a_sign CloseParen ∷ a_sign Semicolon ∷ []) d b.0.1 c.0 f refl le c.1
                          (elim (bind_err (sign_at scan CloseParen c.0) _ f c.2) [
                            | inl p ↦ sign_err scan g CloseParen (a_sign Semicolon ∷ []) d c.0 f le p
                            | inr w ↦ after_sign scan g CloseParen (a_sign Semicolon ∷ []) d c.0 w.0 f refl le w.1
                                (elim (bind_err (sign_at scan Semicolon w.0) _ f w.2) [
                                  | inl p ↦ sign_err scan g Semicolon [] d w.0 f le p
                                  | inr h ↦ absurd (let q = h.2 in cc)
                                ])
                          ])
                    ])
              ])
        ]

    far_err : (way : ℕ → Offset) (ss : List Shape) (d : ℕ) (text : List ℕ) (f : SyntaxFault) → d ≤ MAX_OPEN_BRACES → far_at scan way text ≡ Err f
        → Stuck scan g (a_number ∷ a_sign CloseParen ∷ ss) d text f
    unfolding far_at
    far_err way ss d text f le e =
        elim (bind_err (number_at scan text) _ f e) [
          | inl p ↦ number_err scan g (a_sign CloseParen ∷ ss) d text f le p
          | inr a ↦ after_number scan g (a_sign CloseParen ∷ ss) d text a.0 f le a.1
              (elim (bind_err (sign_at scan CloseParen a.0.1) _ f a.2) [
                | inl p ↦ sign_err scan g CloseParen ss d a.0.1 f le p
                | inr c ↦ absurd (let q = c.2 in cc)
              ])
        ]

    -- behind the sign of an offset
    far_stuck : (s : Sign) (ss : List Shape) (d : ℕ) (text rest : List ℕ) (f : SyntaxFault) → d ≤ MAX_OPEN_BRACES → front scan text ≡ Ok (sign s, rest)
        → step g (at (an_offset ∷ ss) d) (sign s) ≡ Some (at (a_number ∷ a_sign CloseParen ∷ ss) d) → opened (sign s) d ≡ d
        → Stuck scan g (a_number ∷ a_sign CloseParen ∷ ss) d rest f → Stuck scan g (an_offset ∷ ss) d text f
    far_stuck s ss d text rest f le here steps flat stuck =
        behind scan g (an_offset ∷ ss) d text (sign s ∷ []) (a_number ∷ a_sign CloseParen ∷ ss) d rest f (rest, here, refl) (rw steps refl) (le, rw flat le) flat stuck

    in_err : (ss : List Shape) (d : ℕ) (text : List ℕ) (t : Token) (rest : List ℕ) (f : SyntaxFault) → d ≤ MAX_OPEN_BRACES → front scan text ≡ Ok (t, rest)
        → offset_in scan text t rest ≡ Err f → Stuck scan g (an_offset ∷ ss) d text f
    in_err ss d text (sign CloseParen) rest f le here e = absurd cc
    in_err ss d text (sign Minus) rest f le here e = far_stuck Minus ss d text rest f le here refl refl (far_err Back ss d rest f le e)
    in_err ss d text (sign Plus) rest f le here e = far_stuck Plus ss d text rest f le here refl refl (far_err Ahead ss d rest f le e)
    in_err ss d text t rest f le here e = refused scan g (an_offset ∷ ss) d text f le record { token = t; rest = rest; here = here; no_step = refl; fault_is = cc }

    pub offset_err : (ss : List Shape) (d : ℕ) (text : List ℕ) (f : SyntaxFault) → d ≤ MAX_OPEN_BRACES → offset_at scan text ≡ Err f → Stuck scan g (an_offset ∷ ss) d text f
    unfolding offset_at
    offset_err ss d text f le e =
        elim (bind_err (front scan text) (λ x. offset_in scan text x.0 x.1) f e) [
          | inl p ↦ none_here scan g (an_offset ∷ ss) d text f le p
          | inr b ↦ in_err ss d text b.0.0 b.0.1 f le b.1 b.2
        ]

    offset_runs : (off : Offset) (ss : List Shape) (d : ℕ) → run g (at (an_offset ∷ ss) d) (offset_tokens off (sign CloseParen ∷ [])) ≡ Some (at ss d)
    offset_runs Here ss d = refl
    offset_runs (Back k) ss d = refl
    offset_runs (Ahead k) ss d = refl

    -- behind an offset and its brace
    pub after_offset : (ss : List Shape) (d : ℕ) (text : List ℕ) (y : Offset × List ℕ) (f : SyntaxFault) → d ≤ MAX_OPEN_BRACES → offset_at scan text ≡ Ok y
        → Stuck scan g ss d y.1 f → Stuck scan g (an_offset ∷ ss) d text f
    after_offset ss d text y f le e stuck =
        behind scan g (an_offset ∷ ss) d text (offset_tokens y.0 (sign CloseParen ∷ [])) ss d y.1 f (offset_leads text y [] y.1 e refl)
        (offset_runs y.0 ss d) (offset_shallow y.0 d le) (offset_flat y.0 d) stuck
