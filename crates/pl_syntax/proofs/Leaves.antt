-- What reading gives is in the grammar, and where it fails the machine is stuck: readers of a few tokens.
use Rattle.std.proofs.Common.{◌≡◌, ℕ, ◌+◌, ◌<◌, ◌≤◌, ◌==◌, nat_lt, Bool, true, false, List, [], ◌∷◌, ◌++◌, Some, None, Result, Ok, Err, refl, sym, ap, subst, ◌∙◌, arith, ◌⊎◌, inl, inr}
use Rattle.std.proofs.lemmas.Bool.Decides.{nat_tests}
use Rattle.pl_syntax.specs.declared.scan.Scan.{Scan}
use Rattle.pl_syntax.specs.declared.limits.TheConstants.{MAX_OPEN_BRACES}
use Rattle.pl_syntax.specs.declared.fault.TheConstants.{TOO_DEEP}
use Rattle.pl_syntax.specs.declared.token.Keyword.TheVariants as k
use Rattle.pl_syntax.specs.declared.token.Sign.{Sign}
use Rattle.pl_syntax.specs.declared.token.Sign.TheVariants.{OpenBrace}
use Rattle.pl_syntax.specs.declared.fault.SyntaxFault.{SyntaxFault}
use Rattle.pl_syntax.specs.Tokens.{Token, the_end, sign, word, name, number, front, place, Leads}
use Rattle.pl_syntax.specs.inside.Reading.{◌>>=◌, sign_number, unexpected, sign_in, sign_at, name_in, name_at, number_read, number_at, maker_in, maker_at, opened_at}
use Rattle.pl_syntax.specs.Grammar.{opened, open_after, StaysShallow}
use Rattle.pl_syntax.proofs.Fronts.{chosen, ok_pair}
use Rattle.pl_syntax.proofs.Machine.{Firsts, then, Shape, a_sign, a_name, a_number, a_maker, State, at, fits, step, run, run-append}
use Rattle.pl_syntax.proofs.Nesting.{same_sign}

abbrev Fault : Type 0
Fault = SyntaxFault

-- ---- steps that may fail

pub bind_ok : {A B : Type 0} (r : Result A Fault) (f : A → Result B Fault) (y : B) → (r >>= f) ≡ Ok y → (x : A) × (r ≡ Ok x) × (f x ≡ Ok y)
bind_ok (Ok x) f y e = (x, refl, e)
bind_ok (Err d) f y e = absurd cc

pub bind_err : {A B : Type 0} (r : Result A Fault) (f : A → Result B Fault) (d : Fault) → (r >>= f) ≡ Err d → (r ≡ Err d) ⊎ ((x : A) × (r ≡ Ok x) × (f x ≡ Err d))
bind_err (Ok x) f d e = inr (x, refl, e)
bind_err (Err g) f d e = inl (let h : g ≡ d = cc in ap Err h)

pub ok_is : {A : Type 0} (x y : A) → ◌≡◌ {A = Result A Fault} (Ok x) (Ok y) → x ≡ y
ok_is x y e = cc

-- ---- tokens in two parts

pub Leads-append : (scan : Scan) (text : List ℕ) (ts : List Token) (mid : List ℕ) (us : List Token) (rest : List ℕ) → Leads scan text ts mid →
    Leads scan mid us rest → Leads scan text (ts ++ us) rest
Leads-append scan text [] mid us rest p q = subst (λ x. Leads scan x us rest) (sym p) q
Leads-append scan text (t ∷ ts) mid us rest p q = (p.0, p.1, Leads-append scan p.0 ts mid us rest p.2 q)

pub StaysShallow-append : (n : ℕ) (ts us : List Token) → StaysShallow n ts → StaysShallow (open_after n ts) us → StaysShallow n (ts ++ us)
StaysShallow-append n [] us p q = q
StaysShallow-append n (t ∷ ts) us p q = (p.0, StaysShallow-append (opened t n) ts us p.1 q)

-- ---- where reading stops

-- the token that is next fits no longer
pub record Refused (scan : Scan) (g : Firsts) (ss : List Shape) (d : ℕ) (left : List ℕ) (f : Fault) : Type 0 where
  pub token : Token
  pub rest : List ℕ
  pub here : front scan left ≡ Ok (token, rest)
  pub no_step : step g (at ss d) token ≡ None
  pub fault_is : f ≡ unexpected scan left

pub record Full (scan : Scan) (g : Firsts) (ss : List Shape) (d : ℕ) (left : List ℕ) (f : Fault) : Type 0 where
  pub rest : List ℕ
  pub here : front scan left ≡ Ok (sign OpenBrace, rest)
  pub next : State
  pub steps : step g (at ss d) (sign OpenBrace) ≡ Some next
  pub full : d ≡ MAX_OPEN_BRACES
  pub fault_is : f ≡ record { at = place scan left; kind = TOO_DEEP }

-- from this state, tokens lead to a fault
pub record Stuck (scan : Scan) (g : Firsts) (ss : List Shape) (d : ℕ) (text : List ℕ) (f : Fault) : Type 0 where
  pub before : List Token
  pub left : List ℕ
  pub shapes : List Shape
  pub deep : ℕ
  pub reads : Leads scan text before left
  pub runs : run g (at ss d) before ≡ Some (at shapes deep)
  pub shallow : StaysShallow d before
  pub here : (front scan left ≡ Err f) ⊎ (Refused scan g shapes deep left f ⊎ Full scan g shapes deep left f)

-- behind tokens that the machine takes
pub behind : (scan : Scan) (g : Firsts) (ss : List Shape) (d : ℕ) (text : List ℕ) (ts : List Token) (ss' : List Shape) (d' : ℕ) (mid : List ℕ) (f : Fault)
    → Leads scan text ts mid → run g (at ss d) ts ≡ Some (at ss' d') → StaysShallow d ts → open_after d ts ≡ d' → Stuck scan g ss' d' mid f → Stuck scan g ss d text f
behind scan g ss d text ts ss' d' mid f leads runs shallow depth s = record {
  before = ts ++ s.before;
  left = s.left;
  shapes = s.shapes;
  deep = s.deep;
  reads = Leads-append scan text ts mid s.before s.left leads s.reads;
  runs = run-append g (at ss d) ts s.before ∙ rw runs s.runs;
  shallow = StaysShallow-append d ts s.before shallow (subst (λ n. StaysShallow n s.before) (sym depth) s.shallow);
  here = s.here;
}

module _ (scan : Scan) where
  fault_is : (f g : Fault) → ◌≡◌ {A = Result (List ℕ) Fault} (Err f) (Err g) → g ≡ f
  fault_is f g e = cc

  -- ---- a sign

  sign_in_ok : (s : Sign) (text : List ℕ) (t : Token) (rest left : List ℕ) → sign_in scan s text t rest ≡ Ok left → (t ≡ sign s) × (rest ≡ left)
  sign_in_ok s text (sign r) rest left e =
      elim (chosen (sign_number r == sign_number s) _ _ _ e) [ inl p ↦ (ap sign (same_sign r s p.0), ok_is rest left p.1) | inr p ↦ absurd (let q = p.1 in cc) ]
  sign_in_ok s text the_end rest left e = absurd cc
  sign_in_ok s text (word w) rest left e = absurd cc
  sign_in_ok s text (name w) rest left e = absurd cc
  sign_in_ok s text (number w) rest left e = absurd cc

  sign_in_err : (s : Sign) (text : List ℕ) (t : Token) (rest : List ℕ) (f : Fault) → sign_in scan s text t rest ≡ Err f → (fits (a_sign s) t ≡ false) × (f ≡ unexpected scan text)
  sign_in_err s text (sign r) rest f e =
      elim (chosen (sign_number r == sign_number s) _ _ _ e) [ inl p ↦ absurd (let q = p.1 in cc) | inr p ↦ (p.0, fault_is _ f p.1) ]
  sign_in_err s text the_end rest f e = (refl, fault_is _ f e)
  sign_in_err s text (word w) rest f e = (refl, fault_is _ f e)
  sign_in_err s text (name w) rest f e = (refl, fault_is _ f e)
  sign_in_err s text (number w) rest f e = (refl, fault_is _ f e)

  pub sign_ok : (s : Sign) (text left : List ℕ) → sign_at scan s text ≡ Ok left → front scan text ≡ Ok (sign s, left)
  unfolding sign_at
  sign_ok s text left e =
      let b = bind_ok (front scan text) (λ x. sign_in scan s text x.0 x.1) left e in
      let p = sign_in_ok s text b.0.0 b.0.1 left b.2 in
      b.1 ∙ ap (λ (x : Token). Ok (x, b.0.1)) p.0 ∙ ap (λ (x : List ℕ). Ok (sign s, x)) p.1

  -- ---- a name

  name_in_ok : (text : List ℕ) (t : Token) (rest : List ℕ) (y : List ℕ × List ℕ) → name_in scan text t rest ≡ Ok y → (t ≡ name y.0) × (rest ≡ y.1)
  name_in_ok text (name x) rest y e = let h = ok_pair (x, rest) y e in (ap name h.0, h.1)
  name_in_ok text the_end rest y e = absurd cc
  name_in_ok text (sign w) rest y e = absurd cc
  name_in_ok text (word w) rest y e = absurd cc
  name_in_ok text (number w) rest y e = absurd cc

  fault_of : {A : Type 0} (f g : Fault) → ◌≡◌ {A = Result A Fault} (Err f) (Err g) → g ≡ f
  fault_of f g e = cc

  name_in_err : (text : List ℕ) (t : Token) (rest : List ℕ) (f : Fault) → name_in scan text t rest ≡ Err f → (fits a_name t ≡ false) × (f ≡ unexpected scan text)
  name_in_err text (name x) rest f e = absurd cc
  name_in_err text the_end rest f e = (refl, fault_of _ f e)
  name_in_err text (sign w) rest f e = (refl, fault_of _ f e)
  name_in_err text (word w) rest f e = (refl, fault_of _ f e)
  name_in_err text (number w) rest f e = (refl, fault_of _ f e)

  pub name_ok : (text : List ℕ) (y : List ℕ × List ℕ) → name_at scan text ≡ Ok y → front scan text ≡ Ok (name y.0, y.1)
  unfolding name_at
  name_ok text y e =
      let b = bind_ok (front scan text) (λ x. name_in scan text x.0 x.1) y e in
      let p = name_in_ok text b.0.0 b.0.1 y b.2 in
      b.1 ∙ ap (λ (x : Token). Ok (x, b.0.1)) p.0 ∙ ap (λ (x : List ℕ). Ok (name y.0, x)) p.1

  -- ---- a number

  number_in_ok : (text : List ℕ) (t : Token) (rest : List ℕ) (y : ℕ × List ℕ) → number_read scan text t rest ≡ Ok y → (t ≡ number y.0) × (rest ≡ y.1)
  number_in_ok text (number x) rest y e = let h = ok_pair (x, rest) y e in (ap number h.0, h.1)
  number_in_ok text the_end rest y e = absurd cc
  number_in_ok text (sign w) rest y e = absurd cc
  number_in_ok text (word w) rest y e = absurd cc
  number_in_ok text (name w) rest y e = absurd cc

  number_in_err : (text : List ℕ) (t : Token) (rest : List ℕ) (f : Fault) → number_read scan text t rest ≡ Err f → (fits a_number t ≡ false) × (f ≡ unexpected scan text)
  number_in_err text (number x) rest f e = absurd cc
  number_in_err text the_end rest f e = (refl, fault_of _ f e)
  number_in_err text (sign w) rest f e = (refl, fault_of _ f e)
  number_in_err text (word w) rest f e = (refl, fault_of _ f e)
  number_in_err text (name w) rest f e = (refl, fault_of _ f e)

  pub number_ok : (text : List ℕ) (y : ℕ × List ℕ) → number_at scan text ≡ Ok y → front scan text ≡ Ok (number y.0, y.1)
  unfolding number_at
  number_ok text y e =
      let b = bind_ok (front scan text) (λ x. number_read scan text x.0 x.1) y e in
      let p = number_in_ok text b.0.0 b.0.1 y b.2 in
      b.1 ∙ ap (λ (x : Token). Ok (x, b.0.1)) p.0 ∙ ap (λ (x : List ℕ). Ok (number y.0, x)) p.1

  -- ---- what makes a task or a phaser

  abbrev pub maker_of : Bool → Token
  maker_of true = word k.NewTid
  maker_of false = word k.NewPhaser

  maker_in_ok : (text : List ℕ) (t : Token) (rest : List ℕ) (y : Bool × List ℕ) → maker_in scan text t rest ≡ Ok y → (t ≡ maker_of y.0) × (rest ≡ y.1)
  maker_in_ok text (word k.NewTid) rest y e = let h = ok_pair (true, rest) y e in (ap maker_of h.0, h.1)
  maker_in_ok text (word k.NewPhaser) rest y e = let h = ok_pair (false, rest) y e in (ap maker_of h.0, h.1)
  maker_in_ok text _ rest y e = absurd cc

  maker_in_err : (text : List ℕ) (t : Token) (rest : List ℕ) (f : Fault) → maker_in scan text t rest ≡ Err f → (fits a_maker t ≡ false) × (f ≡ unexpected scan text)
  maker_in_err text (word k.NewTid) rest f e = absurd cc
  maker_in_err text (word k.NewPhaser) rest f e = absurd cc
  maker_in_err text _ rest f e = (refl, fault_of _ f e)

  pub maker_ok : (text : List ℕ) (y : Bool × List ℕ) → maker_at scan text ≡ Ok y → front scan text ≡ Ok (maker_of y.0, y.1)
  unfolding maker_at
  maker_ok text y e =
      let b = bind_ok (front scan text) (λ x. maker_in scan text x.0 x.1) y e in
      let p = maker_in_ok text b.0.0 b.0.1 y b.2 in
      b.1 ∙ ap (λ (x : Token). Ok (x, b.0.1)) p.0 ∙ ap (λ (x : List ℕ). Ok (maker_of y.0, x)) p.1

  -- ---- a brace

  abbrev opens : List ℕ → Result (List ℕ) Fault
  opens left = Ok left

  abbrev too_deep : List ℕ → Result (List ℕ) Fault
  too_deep text = Err (record { at = place scan text; kind = TOO_DEEP })

  pub opened_ok : (d : ℕ) (text left : List ℕ) → opened_at scan d text ≡ Ok left → (front scan text ≡ Ok (sign OpenBrace, left)) × (d < MAX_OPEN_BRACES)
  unfolding opened_at
  opened_ok d text left e =
      let b = bind_ok (sign_at scan OpenBrace text) _ left e in
      elim (chosen (nat_lt d MAX_OPEN_BRACES) (opens b.0) (too_deep text) (opens left) b.2) [
        | inl p ↦ (sign_ok OpenBrace text left (b.1 ∙ p.1), (let q = p.0 in grind (arith, nat_tests)))
        | inr p ↦ absurd (let q = p.1 in cc)
      ]

  -- ---- behind one token

  maker_fits : (b : Bool) → fits a_maker (maker_of b) ≡ true
  maker_fits true = refl
  maker_fits false = refl

  maker_flat : (b : Bool) (d : ℕ) → opened (maker_of b) d ≡ d
  maker_flat true d = refl
  maker_flat false d = refl

  -- the token at which a sign was wanted
  pub sign_fault : (s : Sign) (text : List ℕ) (t : Token) (rest : List ℕ) (f : Fault) → front scan text ≡ Ok (t, rest) → sign_at scan s text ≡ Err f →
      (fits (a_sign s) t ≡ false) × (f ≡ unexpected scan text)
  unfolding sign_at
  sign_fault s text t rest f here e =
      let g : sign_in scan s text t rest ≡ Err f = rw here at e in
      sign_in_err s text t rest f g

  -- ---- where the machine of a grammar stops

  module _ (g : Firsts) where
    -- no token at all
    pub none_here : (ss : List Shape) (d : ℕ) (text : List ℕ) (f : Fault) → d ≤ MAX_OPEN_BRACES → front scan text ≡ Err f → Stuck scan g ss d text f
    none_here ss d text f le e = record { before = []; left = text; shapes = ss; deep = d; reads = refl; runs = refl; shallow = le; here = inl e }

    pub refused : (ss : List Shape) (d : ℕ) (text : List ℕ) (f : Fault) → d ≤ MAX_OPEN_BRACES → Refused scan g ss d text f → Stuck scan g ss d text f
    refused ss d text f le e = record { before = []; left = text; shapes = ss; deep = d; reads = refl; runs = refl; shallow = le; here = inr (inl e) }

    full : (ss : List Shape) (d : ℕ) (text : List ℕ) (f : Fault) → d ≤ MAX_OPEN_BRACES → Full scan g ss d text f → Stuck scan g ss d text f
    full ss d text f le e = record { before = []; left = text; shapes = ss; deep = d; reads = refl; runs = refl; shallow = le; here = inr (inr e) }

    -- a token that does not fit the shape
    misfit : (s : Shape) (ss : List Shape) (d : ℕ) (text : List ℕ) (t : Token) (rest : List ℕ) (f : Fault) → d ≤ MAX_OPEN_BRACES →
        front scan text ≡ Ok (t, rest) → fits s t ≡ false → f ≡ unexpected scan text → Stuck scan g (s ∷ ss) d text f
    misfit s ss d text t rest f le here misses is = refused (s ∷ ss) d text f le record { token = t; rest = rest; here = here; no_step = rw misses refl; fault_is = is }

    pub sign_err : (s : Sign) (ss : List Shape) (d : ℕ) (text : List ℕ) (f : Fault) → d ≤ MAX_OPEN_BRACES → sign_at scan s text ≡ Err f → Stuck scan g (a_sign s ∷ ss) d text f
    unfolding sign_at
    sign_err s ss d text f le e =
        elim (bind_err (front scan text) (λ x. sign_in scan s text x.0 x.1) f e) [
          | inl p ↦ none_here (a_sign s ∷ ss) d text f le p
          | inr b ↦ (let p = sign_in_err s text b.0.0 b.0.1 f b.2 in misfit (a_sign s) ss d text b.0.0 b.0.1 f le b.1 p.0 p.1)
        ]

    pub name_err : (ss : List Shape) (d : ℕ) (text : List ℕ) (f : Fault) → d ≤ MAX_OPEN_BRACES → name_at scan text ≡ Err f → Stuck scan g (a_name ∷ ss) d text f
    unfolding name_at
    name_err ss d text f le e =
        elim (bind_err (front scan text) (λ x. name_in scan text x.0 x.1) f e) [
          | inl p ↦ none_here (a_name ∷ ss) d text f le p
          | inr b ↦ (let p = name_in_err text b.0.0 b.0.1 f b.2 in misfit a_name ss d text b.0.0 b.0.1 f le b.1 p.0 p.1)
        ]

    pub number_err : (ss : List Shape) (d : ℕ) (text : List ℕ) (f : Fault) → d ≤ MAX_OPEN_BRACES → number_at scan text ≡ Err f → Stuck scan g (a_number ∷ ss) d text f
    unfolding number_at
    number_err ss d text f le e =
        elim (bind_err (front scan text) (λ x. number_read scan text x.0 x.1) f e) [
          | inl p ↦ none_here (a_number ∷ ss) d text f le p
          | inr b ↦ (let p = number_in_err text b.0.0 b.0.1 f b.2 in misfit a_number ss d text b.0.0 b.0.1 f le b.1 p.0 p.1)
        ]

    pub maker_err : (ss : List Shape) (d : ℕ) (text : List ℕ) (f : Fault) → d ≤ MAX_OPEN_BRACES → maker_at scan text ≡ Err f → Stuck scan g (a_maker ∷ ss) d text f
    unfolding maker_at
    maker_err ss d text f le e =
        elim (bind_err (front scan text) (λ x. maker_in scan text x.0 x.1) f e) [
          | inl p ↦ none_here (a_maker ∷ ss) d text f le p
          | inr b ↦ (let p = maker_in_err text b.0.0 b.0.1 f b.2 in misfit a_maker ss d text b.0.0 b.0.1 f le b.1 p.0 p.1)
        ]

    pub opened_err : (ss : List Shape) (d : ℕ) (text : List ℕ) (f : Fault) → d ≤ MAX_OPEN_BRACES → opened_at scan d text ≡ Err f → Stuck scan g (a_sign OpenBrace ∷ ss) d text f
    unfolding opened_at
    opened_err ss d text f le e =
        elim (bind_err (sign_at scan OpenBrace text) _ f e) [
          | inl p ↦ sign_err OpenBrace ss d text f le p
          | inr b ↦ elim (chosen (nat_lt d MAX_OPEN_BRACES) (opens b.0) (too_deep text) (Err f) b.2) [
            | inl p ↦ absurd (let q = p.1 in cc)
            | inr p ↦ full (a_sign OpenBrace ∷ ss) d text f le record {
              rest = b.0;
              here = sign_ok OpenBrace text b.0 b.1;
              next = at ss (d + 1);
              steps = refl;
              full = (let q = p.0 in grind (arith, nat_tests));
              fault_is = fault_is _ f p.1;
            }
          ]
        ]

    pub after : (s : Shape) (t : Token) (ss : List Shape) (d d' : ℕ) (text mid : List ℕ) (f : Fault) → front scan text ≡ Ok (t, mid) → fits s t ≡ true →
        opened t d ≡ d' → d ≤ MAX_OPEN_BRACES → d' ≤ MAX_OPEN_BRACES
        → then s t ss ≡ ss → Stuck scan g ss d' mid f → Stuck scan g (s ∷ ss) d text f
    after s t ss d d' text mid f here fit depth le le' same stuck =
        behind scan g (s ∷ ss) d text (t ∷ []) ss d' mid f (mid, here, refl) (rw (fit, same, depth) refl) (le, rw depth le') depth stuck

    pub after_sign : (s : Sign) (ss : List Shape) (d : ℕ) (text mid : List ℕ) (f : Fault) → opened (sign s) d ≡ d → d ≤ MAX_OPEN_BRACES → sign_at scan s text ≡ Ok mid
        → Stuck scan g ss d mid f → Stuck scan g (a_sign s ∷ ss) d text f
    after_sign s ss d text mid f flat le e stuck = after (a_sign s) (sign s) ss d d text mid f (sign_ok s text mid e) (fits_itself s) flat le le refl stuck
      where
        fits_itself : (s : Sign) → fits (a_sign s) (sign s) ≡ true
        fits_itself s = grind (arith, nat_tests)

    pub after_name : (ss : List Shape) (d : ℕ) (text : List ℕ) (y : List ℕ × List ℕ) (f : Fault) → d ≤ MAX_OPEN_BRACES → name_at scan text ≡ Ok y →
        Stuck scan g ss d y.1 f → Stuck scan g (a_name ∷ ss) d text f
    after_name ss d text y f le e stuck = after a_name (name y.0) ss d d text y.1 f (name_ok text y e) refl refl le le refl stuck

    pub after_number : (ss : List Shape) (d : ℕ) (text : List ℕ) (y : ℕ × List ℕ) (f : Fault) → d ≤ MAX_OPEN_BRACES → number_at scan text ≡ Ok y →
        Stuck scan g ss d y.1 f → Stuck scan g (a_number ∷ ss) d text f
    after_number ss d text y f le e stuck = after a_number (number y.0) ss d d text y.1 f (number_ok text y e) refl refl le le refl stuck

    pub after_maker : (ss : List Shape) (d : ℕ) (text : List ℕ) (y : Bool × List ℕ) (f : Fault) → d ≤ MAX_OPEN_BRACES → maker_at scan text ≡ Ok y →
        Stuck scan g ss d y.1 f → Stuck scan g (a_maker ∷ ss) d text f
    after_maker ss d text y f le e stuck = after a_maker (maker_of y.0) ss d d text y.1 f (maker_ok text y e) (maker_fits y.0) (maker_flat y.0 d) le le refl stuck
