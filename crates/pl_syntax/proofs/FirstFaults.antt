-- What is read from a start on is read in one way: to its end, or up to one first fault. Some tokens are the first ones of texts (Starts), and some are whole.
use Rattle.std.proofs.Common.{◌≡◌, ℕ, ◌+◌, ◌≤◌, List, [], ◌∷◌, ◌++◌, Result, Ok, Err, refl, sym, ap, subst, ◌∙◌, append_assoc, arith, ◌⊎◌, inl, inr}
use Rattle.pl_syntax.specs.declared.scan.Scan.{Scan}
use Rattle.pl_syntax.specs.declared.limits.TheConstants.{MAX_OPEN_BRACES}
use Rattle.pl_syntax.specs.declared.token.Sign.TheVariants.{OpenBrace}
use Rattle.pl_syntax.specs.declared.fault.SyntaxFault.{SyntaxFault}
use Rattle.pl_syntax.specs.Tokens.{Token, sign, front, Leads}
use Rattle.pl_syntax.specs.Grammar.{opened, open_after, StaysShallow, IsFirstSyntaxFault, IsAtFault, no_token, cannot_stand, too_deep}
use Rattle.pl_syntax.proofs.Fronts.{ok_pair}

-- ---- readings of one text

-- two readings of one text are one, or one is the other and more
abbrev Longer : Scan → List Token → List ℕ → List Token → List ℕ → Type 0
Longer scan ts rest us end = (t : Token) × (vs : List Token) × (us ≡ ts ++ t ∷ vs) × Leads scan rest (t ∷ vs) end

abbrev Compared : Scan → List Token → List ℕ → List Token → List ℕ → Type 0
Compared scan ts rest us end = ((ts ≡ us) × (rest ≡ end)) ⊎ (Longer scan ts rest us end ⊎ Longer scan us end ts rest)

more : (scan : Scan) (t : Token) (ts : List Token) (rest : List ℕ) (us : List Token) (end : List ℕ) → Compared scan ts rest us end → Compared scan (t ∷ ts) rest (t ∷ us) end
more scan t ts rest us end (inl e) = inl (ap (λ (x : List Token). t ∷ x) e.0, e.1)
more scan t ts rest us end (inr (inl l)) = inr (inl (l.0, l.1, ap (λ (x : List Token). t ∷ x) l.2, l.3))
more scan t ts rest us end (inr (inr l)) = inr (inr (l.0, l.1, ap (λ (x : List Token). t ∷ x) l.2, l.3))

compare : (scan : Scan) (text : List ℕ) (ts : List Token) (rest : List ℕ) (us : List Token) (end : List ℕ) → Leads scan text ts rest → Leads scan text us end →
    Compared scan ts rest us end
compare scan text [] rest [] end p q = inl (refl, sym p ∙ q)
compare scan text [] rest (u ∷ us) end p q = inr (inl (u, us, refl, subst (λ (x : List ℕ). Leads scan x (u ∷ us) end) p q))
compare scan text (t ∷ ts) rest [] end p q = inr (inr (t, ts, refl, subst (λ (x : List ℕ). Leads scan x (t ∷ ts) rest) q p))
compare scan text (t ∷ ts) rest (u ∷ us) end p q =
    let h = ok_pair (t, p.0) (u, q.0) (sym p.1 ∙ q.1) in
    let c = compare scan p.0 ts rest us end p.2 (subst (λ (x : List ℕ). Leads scan x us end) (sym h.1) q.2) in
    subst (λ (x : Token). Compared scan (t ∷ ts) rest (x ∷ us) end) h.0 (more scan t ts rest us end c)

-- ---- a fault stops every reading

shallow_rest : (n : ℕ) (ts us : List Token) → StaysShallow n (ts ++ us) → StaysShallow (open_after n ts) us
shallow_rest n [] us h = h
shallow_rest n (t ∷ ts) us h = shallow_rest (opened t n) ts us h.1

shallow_now : (n : ℕ) (ts : List Token) → StaysShallow n ts → n ≤ MAX_OPEN_BRACES
shallow_now n [] h = h
shallow_now n (t ∷ ts) h = h.0

module _ (Starts : List Token → Type 0) (begins_front : (ts us : List Token) → Starts (ts ++ us) → Starts ts) where
  -- no reading goes past a fault
  stops_all : (scan : Scan) (before : List Token) (text : List ℕ) (f : SyntaxFault) (t : Token) (mid : List ℕ) (vs : List Token) → IsAtFault Starts before scan text f
      → front scan text ≡ Ok (t, mid) → Starts (before ++ t ∷ []) → StaysShallow 0 (before ++ t ∷ vs) → ⊥
  stops_all scan before text f t mid vs (no_token a) here b s = let h = a.here in let q : ◌≡◌ {A = Result (Token × List ℕ) SyntaxFault} (Err f) (Ok (t, mid)) = sym h ∙ here in cc
  stops_all scan before text f t mid vs (cannot_stand a) here b s =
      let h = ok_pair (a.token, a.rest) (t, mid) (sym a.here ∙ here) in
      a.stands_not (subst (λ (x : Token). Starts (before ++ x ∷ [])) (sym h.0) b)
  stops_all scan before text f t mid vs (too_deep a) here b s =
      let h = ok_pair (sign OpenBrace, a.rest) (t, mid) (sym a.here ∙ here) in
      let r = shallow_rest 0 before (t ∷ vs) s in
      let g = shallow_now (opened t (open_after 0 before)) vs r.1 in
      let o : opened t (open_after 0 before) ≡ open_after 0 before + 1 = ap (λ (x : Token). opened x (open_after 0 before)) (sym h.0) in
      let full = a.full in
      omega arith

  one_token : (before : List Token) (t : Token) (vs : List Token) → Starts (before ++ t ∷ vs) → Starts (before ++ t ∷ [])
  one_token before t vs b = begins_front (before ++ t ∷ []) vs (subst Starts (sym (append_assoc before (t ∷ []) vs)) b)

  began : (scan : Scan) (start : List ℕ) (f : SyntaxFault) (b : IsFirstSyntaxFault Starts scan start f) → Starts b.before
  began scan start f b = begins_front b.before (b.goes_on.0 ∷ []) b.goes_on.1

  same_fault : (scan : Scan) (before : List Token) (text : List ℕ) (f g : SyntaxFault) → IsAtFault Starts before scan text f → IsAtFault Starts before scan text g → f ≡ g
  same_fault scan before text f g (no_token a) (no_token b) = let x = a.here in let y = b.here in
      let q : ◌≡◌ {A = Result (Token × List ℕ) SyntaxFault} (Err f) (Err g) = sym x ∙ y in cc
  same_fault scan before text f g (no_token a) (cannot_stand b) = absurd (let q : Err f ≡ Ok (b.token, b.rest) = sym a.here ∙ b.here in cc)
  same_fault scan before text f g (no_token a) (too_deep b) = absurd (let q : Err f ≡ Ok (sign OpenBrace, b.rest) = sym a.here ∙ b.here in cc)
  same_fault scan before text f g (cannot_stand a) (no_token b) = absurd (let q : Err g ≡ Ok (a.token, a.rest) = sym b.here ∙ a.here in cc)
  same_fault scan before text f g (too_deep a) (no_token b) = absurd (let q : Err g ≡ Ok (sign OpenBrace, a.rest) = sym b.here ∙ a.here in cc)
  same_fault scan before text f g (cannot_stand a) (cannot_stand b) = a.fault_is ∙ sym b.fault_is
  same_fault scan before text f g (too_deep a) (too_deep b) = a.fault_is ∙ sym b.fault_is
  same_fault scan before text f g (cannot_stand a) (too_deep b) =
      absurd (a.stands_not (subst (λ (x : Token). Starts (before ++ x ∷ [])) (ok_pair (sign OpenBrace, b.rest) (a.token, a.rest) (sym b.here ∙ a.here)).0 b.stands))
  same_fault scan before text f g (too_deep a) (cannot_stand b) =
      absurd (b.stands_not (subst (λ (x : Token). Starts (before ++ x ∷ [])) (ok_pair (sign OpenBrace, a.rest) (b.token, b.rest) (sym a.here ∙ b.here)).0 a.stands))

  goes_past : (scan : Scan) (before : List Token) (left : List ℕ) (f : SyntaxFault) (us : List Token) (end : List ℕ) → IsAtFault Starts before scan left f → Longer scan before left us end
      → Starts us → StaysShallow 0 us → ⊥
  goes_past scan before left f us end a l b s =
      stops_all scan before left f l.0 l.3.0 l.1 a l.3.1 (one_token before l.0 l.1 (subst Starts l.2 b)) (subst (StaysShallow 0) l.2 s)

  pub one_from : (scan : Scan) (start : List ℕ) (f g : SyntaxFault) → IsFirstSyntaxFault Starts scan start f → IsFirstSyntaxFault Starts scan start g → f ≡ g
  one_from scan start f g a b = elim (compare scan start a.before a.left b.before b.left a.reads b.reads) [
    | inl e ↦ same_fault scan b.before b.left f g (subst (λ (x : List Token). IsAtFault Starts x scan b.left f) e.0 (subst (λ (x : List ℕ). IsAtFault Starts a.before scan x f) e.1 a.here)) b.here
    | inr (inl l) ↦ absurd (goes_past scan a.before a.left f b.before b.left a.here l (began scan start g b) b.shallow)
    | inr (inr l) ↦ absurd (goes_past scan b.before b.left g a.before a.left b.here l (began scan start f a) a.shallow)
  ]

  -- ---- whole stretches

  module _
      (Whole : List Token → Type 0)
      (end_only : (us : List Token) → Whole us → (t : Token) (vs : List Token) → Starts (us ++ t ∷ vs) → ⊥)
      (whole_begins : (us : List Token) → Whole us → Starts us) where
    -- two whole stretches from one start are one
    pub one_stretch : (scan : Scan) (text : List ℕ) (us : List Token) (end : List ℕ) (vs : List Token) (end' : List ℕ) → Whole us → Whole vs
        → Leads scan text us end → Leads scan text vs end' → (us ≡ vs) × (end ≡ end')
    one_stretch scan text us end vs end' a b p q = elim (compare scan text us end vs end' p q) [
      | inl e ↦ e
      | inr (inl l) ↦ absurd (end_only us a l.0 l.1 (subst Starts l.2 (whole_begins vs b)))
      | inr (inr l) ↦ absurd (end_only vs b l.0 l.1 (subst Starts l.2 (whole_begins us a)))
    ]

    -- no whole stretch has a fault
    pub no_fault : (scan : Scan) (start : List ℕ) (us : List Token) (end : List ℕ) (f : SyntaxFault) → Whole us → StaysShallow 0 us → Leads scan start us end
        → IsFirstSyntaxFault Starts scan start f → ⊥
    no_fault scan start us end f whole shallow reads b = elim (compare scan start b.before b.left us end b.reads reads) [
      | inl e ↦ end_only us whole b.goes_on.0 [] (subst (λ (x : List Token). Starts (x ++ b.goes_on.0 ∷ [])) e.0 b.goes_on.1)
      | inr (inl l) ↦ stops_all scan b.before b.left f l.0 l.3.0 l.1 b.here l.3.1
          (one_token b.before l.0 l.1 (subst Starts l.2 (whole_begins us whole))) (subst (StaysShallow 0) l.2 shallow)
      | inr (inr l) ↦ end_only us whole l.0 l.1 (subst Starts l.2 (began scan start f b))
    ]
