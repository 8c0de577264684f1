-- Faults within the header of PL 2, and outside of it.
use Rattle.std.proofs.Common.{◌≡◌, ℕ, ◌≤◌, Bool, true, false, List, [], ◌∷◌, ◌++◌, length, None, Ok, refl, sym, ap, subst, ◌∙◌, append_assoc, append-nil, arith, ◌⊎◌, inl, inr}
use Rattle.std.specs.Prelude.{IsTrue, codes}
use Rattle.std.proofs.lemmas.Bool.Decides.{nat_tests}
use Rattle.std.proofs.lemmas.Slice.Eq.{bytes_eq-Decides}
use Rattle.pl_syntax.specs.declared.fault.SyntaxFault.{SyntaxFault}
use Rattle.pl_syntax.specs.declared.scan.Scan.{Scan}
use Rattle.pl_syntax.specs.declared.token.Sign.TheVariants.{Equals, OpenParen, CloseParen, Comma, Semicolon, OpenBrace, CloseBrace, Plus, Minus}
use Rattle.pl_syntax.specs.Tokens.{Token, the_end, sign, word, name, number, Leads, front, place}
use Rattle.pl_syntax.specs.Grammar.{Begins, HasFault, IsAtFault, ReadsTokens, StaysShallow, header, scan_of}
use Rattle.pl_syntax.specs.inside.Reading.{is_pl, is_two}
use Rattle.pl_syntax.proofs.Beginnings.{leads_behind, one_rest}
use Rattle.pl_syntax.proofs.FirstFaults.{no_fault}
use Rattle.pl_syntax.proofs.Forest.{begins_if, runs_if}
use Rattle.pl_syntax.proofs.Fronts.{front_le, ok_pair}
use Rattle.explain_syntax.specs.declared.stand.Behind.TheVariants as behind
use Rattle.explain_syntax.specs.declared.stand.GrammarStand.{GrammarStand}
use Rattle.explain_syntax.specs.declared.wanted.WantedTokens.TheVariants as w
use Rattle.explain_syntax.specs.Stands.{IsStand, StandsBehind}
use Rattle.explain_syntax.specs.Wanted.{IsTokenOf, IsWanted, is_wanted}
use Rattle.explain_syntax.specs.inside.Walking.{WalkComesTo, IsOutside}
use Rattle.explain_syntax.proofs.Places.{NoEnd, fault_at, none_read, place_on, place_past}
use Rattle.explain_syntax.proofs.Walked.{no_end, runs_before}

abbrev pub a_pl : Token
a_pl = name (codes "pl")

pub pl_is : (t : Token) → is_pl t ≡ true → t ≡ a_pl
pl_is (name x) e = ap name (((bytes_eq-Decides x (codes "pl")).0 e))
pl_is the_end e = absurd cc
pl_is (sign s) e = absurd cc
pl_is (word k) e = absurd cc
pl_is (number n) e = absurd cc

pub two_is : (t : Token) → is_two t ≡ true → t ≡ number 2
two_is (number n) e = (let n2 : n ≡ 2 = grind (arith, nat_tests) in ap number n2)
two_is the_end e = absurd cc
two_is (sign s) e = absurd cc
two_is (word k) e = absurd cc
two_is (name n) e = absurd cc

-- ---- the two forms of a fault

NoEnd-left : (ts us : List Token) → NoEnd (ts ++ us) → NoEnd ts
NoEnd-left [] us n = tt
NoEnd-left (t ∷ ts) us n = (n.0, NoEnd-left ts us n.1)

header_no_end : NoEnd header
header_no_end = (λ e. cc, (λ e. cc, (λ e. cc, tt)))

before_no_end : (two : Bool) (before : List Token) → ((t : Token) × Begins two (before ++ t ∷ [])) → NoEnd before
before_no_end true before some = let r = runs_before before some in no_end before [] 0 r.0 r.1 r.2
before_no_end false before (t, inl b) = let r = runs_before before (t, b) in no_end before [] 0 r.0 r.1 r.2
before_no_end false before (t, inr (more, e)) =
    NoEnd-left before (t ∷ more) (subst NoEnd (sym (sym (append_assoc before (t ∷ []) more) ∙ e)) header_no_end)

-- in PL 1
pub record InOne (text : List ℕ) (f : SyntaxFault) (before : List Token) (left : List ℕ) : Type 0 where
  pub reads : Leads (scan_of false text) text before left
  pub goes_on : (t : Token) × Begins false (before ++ t ∷ [])
  pub at_is : f.at ≡ place (scan_of false text) left
  pub no_end : NoEnd before
  pub here : IsAtFault (Begins false) before (scan_of false text) left f

-- behind a header
pub record InTwo (text : List ℕ) (f : SyntaxFault) (before : List Token) (left : List ℕ) : Type 0 where
  pub mid : List ℕ
  pub header_is : Leads (scan_of false text) text header mid
  pub reads : Leads (scan_of true text) mid before left
  pub goes_on : (t : Token) × Begins true (before ++ t ∷ [])
  pub at_is : f.at ≡ place (scan_of true text) left
  pub no_end : NoEnd before

pub fault_cases : (text : List ℕ) (f : SyntaxFault) (b : HasFault text f) →
    ((b.two ≡ false) × InOne text f b.before b.left) ⊎ ((b.two ≡ true) × InTwo text f b.before b.left)
fault_cases text f b = cases b.two refl b.reads b.goes_on b.here
  where
    cases : (two : Bool) → b.two ≡ two → ReadsTokens two text b.before b.left → ((t : Token) × Begins two (b.before ++ t ∷ [])) →
        IsAtFault (Begins two) b.before (scan_of two text) b.left f →
        ((b.two ≡ false) × InOne text f b.before b.left) ⊎ ((b.two ≡ true) × InTwo text f b.before b.left)
    cases false e reads goes_on here = inl (
      e,
      record {
        reads = reads;
        goes_on = goes_on;
        at_is = fault_at (Begins false) b.before (scan_of false text) b.left f here;
        no_end = before_no_end false b.before goes_on;
        here = here;
      },
    )
    cases true e (mid, ahead, reads) goes_on here = inr (
      e,
      record {
        mid = mid;
        header_is = ahead;
        reads = reads;
        goes_on = goes_on;
        at_is = fault_at (Begins true) b.before (scan_of true text) b.left f here;
        no_end = before_no_end true b.before goes_on;
      },
    )

pub in_one : (text : List ℕ) (f : SyntaxFault) (b : HasFault text f) → b.two ≡ false → InOne text f b.before b.left
in_one text f b e = elim (fault_cases text f b) [ inl x ↦ x.1 | inr x ↦ absurd (let q = sym e ∙ x.0 in cc) ]

-- ---- a header has no fault

past_header : (us : List Token) → Begins true (header ++ us) → ⊥
past_header us b = let r = runs_if (header ++ us) b in let e = r.1 in cc

one_front : (ts us : List Token) → Begins false (ts ++ us) → Begins false ts
one_front ts us (inl b) = inl (b.0, us ++ b.1, sym (append_assoc ts us b.1) ∙ b.2)
one_front ts us (inr b) = inr (us ++ b.0, sym (append_assoc ts us b.0) ∙ b.1)

abbrev IsHeader : List Token → Type 0
IsHeader ts = ts ≡ header

header_longer : (us : List Token) (t : Token) (vs more : List Token) → us ≡ header → (us ++ t ∷ vs) ++ more ≡ header → ⊥
header_longer us t vs more h e = let q : (header ++ t ∷ vs) ++ more ≡ header = ap (λ x. (x ++ t ∷ vs) ++ more) (sym h) ∙ e in cc

header_only : (us : List Token) → IsHeader us → (t : Token) (vs : List Token) → Begins false (us ++ t ∷ vs) → ⊥
header_only us h t vs (inl b) = past_header (t ∷ vs) (subst (λ x. Begins true (x ++ t ∷ vs)) h b)
header_only us h t vs (inr b) = header_longer us t vs b.0 h b.1

header_begins : (us : List Token) → IsHeader us → Begins false us
header_begins us h = inr ([], append-nil us ∙ h)

header_shallow : StaysShallow 0 header
header_shallow = (omega arith, (omega arith, (omega arith, omega arith)))

-- where a header stands, the fault stands behind it
pub two_by_header : (text mid : List ℕ) (f : SyntaxFault) (b : HasFault text f) → Leads (scan_of false text) text header mid → b.two ≡ true
two_by_header text mid f b leads = elim (fault_cases text f b) [
  | inl x ↦
      let i = x.1 in
      absurd (no_fault (Begins false) one_front IsHeader header_only header_begins (scan_of false text) text header mid f refl header_shallow leads
      (record { before = b.before; left = b.left; reads = i.reads; goes_on = i.goes_on; shallow = b.shallow; here = i.here }))
  | inr x ↦ x.0
]

-- ---- outside of a header

never_empty : (us : List Token) (t : Token) (more : List Token) → (us ++ t ∷ []) ++ more ≡ [] → ⊥
never_empty [] t more e = cc
never_empty (u ∷ us) t more e = cc

-- what goes on with one more token
abbrev pub Only : List Token → Type 0
Only before = (t : Token) → Begins false (before ++ t ∷ []) → Begins true (before ++ t ∷ [])

pub only_none : Only []
only_none t (inl b) = b
only_none t (inr (more, e)) =
    let is : t ≡ a_pl = cc in
    subst (λ x. Begins true (x ∷ [])) (sym is) (begins_if (a_pl ∷ []) _ refl)

pub only_first : (x : Token) (us : List Token) → is_pl x ≡ false → Only (x ∷ us)
only_first x us isnt t (inl b) = b
only_first x us isnt t (inr (more, e)) =
    let is : x ≡ a_pl = cc in
    absurd (let q = sym isnt ∙ ap is_pl is in cc)

pub only_second : (x y : Token) (us : List Token) → is_two y ≡ false → Only (x ∷ y ∷ us)
only_second x y us isnt t (inl b) = b
only_second x y us isnt t (inr (more, e)) =
    let is : y ≡ number 2 = cc in
    absurd (let q = sym isnt ∙ ap is_two is in cc)

pub only_long : (x y z : Token) (us : List Token) → Only (x ∷ y ∷ z ∷ us)
only_long x y z us t (inl b) = b
only_long x y z us t (inr (more, e)) =
    let rest : (us ++ t ∷ []) ++ more ≡ [] = cc in
    absurd (never_empty us t more rest)

module _ (text : List ℕ) (f : SyntaxFault) where
  abbrev one : Scan
  one = scan_of false text

  outside_by : ((before : List Token) (left : List ℕ) → InOne text f before left → Only before) → IsOutside text f
  outside_by h b e = h b.before b.left (in_one text f b e)

  pub outside_at_first : place one text ≡ f.at → IsOutside text f
  outside_at_first at = outside_by (λ before left i.
      let none : before ≡ [] = none_read one text before left (omega arith) i.no_end i.reads (at ∙ i.at_is) in
      subst Only (sym none) only_none)

  pub outside_no_pl : (x : Token) (rest : List ℕ) → front one text ≡ Ok (x, rest) → is_pl x ≡ false → IsOutside text f
  outside_no_pl x rest here isnt = outside_by by
    where
      by : (before : List Token) (left : List ℕ) → InOne text f before left → Only before
      by [] left i = only_none
      by (u ∷ us) left i = only_first u us (ap is_pl (ok_pair (u, i.reads.0) (x, rest) (sym i.reads.1 ∙ here)).0 ∙ isnt)

  pub outside_no_two : (x : Token) (rest : List ℕ) (y : Token) (after : List ℕ) → front one text ≡ Ok (x, rest) → (place one rest ≡ f.at → ⊥) → front one rest ≡ Ok (y, after) →
      is_two y ≡ false → IsOutside text f
  outside_no_two x rest y after here far there isnt = outside_by by
    where
      second : (u v : Token) (us : List Token) (left : List ℕ) → Leads one text (u ∷ v ∷ us) left → v ≡ y
      second u v us left l =
          let m = leads_behind one text u (v ∷ us) left x rest l here in
          (ok_pair (v, m.0) (y, after) (sym m.1 ∙ there)).0

      by : (before : List Token) (left : List ℕ) → InOne text f before left → Only before
      by [] left i = only_none
      by (u ∷ []) left i = absurd (far (ap (place one) (leads_behind one text u [] left x rest i.reads here) ∙ sym i.at_is))
      by (u ∷ v ∷ us) left i = only_second u v us (ap is_two (second u v us left i.reads) ∙ isnt)

  pub outside_past : (x : Token) (rest : List ℕ) (y : Token) (after : List ℕ) → front one text ≡ Ok (x, rest) → (place one rest ≡ f.at → ⊥) → front one rest ≡ Ok (y, after) →
      (place one after ≡ f.at → ⊥) → IsOutside text f
  outside_past x rest y after here far there beyond = outside_by by
    where
      by : (before : List Token) (left : List ℕ) → InOne text f before left → Only before
      by [] left i = only_none
      by (u ∷ []) left i = absurd (far (ap (place one) (leads_behind one text u [] left x rest i.reads here) ∙ sym i.at_is))
      by (u ∷ v ∷ []) left i =
          let m = leads_behind one text u (v ∷ []) left x rest i.reads here in
          absurd (beyond (ap (place one) (leads_behind one rest v [] left y after m there) ∙ sym i.at_is))
      by (u ∷ v ∷ z ∷ us) left i = only_long u v z us

  -- ---- the next token

  pub first_some : HasFault text f → (place one text ≡ f.at → ⊥) → (t : Token) × (after : List ℕ) × (front one text ≡ Ok (t, after))
  first_some b far = elim (fault_cases text f b) [
    | inl x ↦ of b.before b.left x.1
    | inr x ↦ (let i = x.1 in (a_pl, i.header_is.0, i.header_is.1))
  ]
    where
      of : (before : List Token) (left : List ℕ) → InOne text f before left → (t : Token) × (after : List ℕ) × (front one text ≡ Ok (t, after))
      of [] left i = absurd (far (ap (place one) i.reads ∙ sym i.at_is))
      of (u ∷ us) left i = (u, i.reads.0, i.reads.1)

  pub second_some : HasFault text f → (x : Token) (rest : List ℕ) → front one text ≡ Ok (x, rest) → (place one text ≡ f.at → ⊥) → (place one rest ≡ f.at → ⊥) →
      (t : Token) × (after : List ℕ) × (front one rest ≡ Ok (t, after))
  second_some b x rest here far further = elim (fault_cases text f b) [
    | inl i ↦ of b.before b.left i.1
    | inr i ↦ (let j = i.1 in let l = leads_behind one text a_pl (number 2 ∷ sign Semicolon ∷ []) j.mid x rest j.header_is here in (number 2, l.0, l.1))
  ]
    where
      of : (before : List Token) (left : List ℕ) → InOne text f before left → (t : Token) × (after : List ℕ) × (front one rest ≡ Ok (t, after))
      of [] left i = absurd (far (ap (place one) i.reads ∙ sym i.at_is))
      of (u ∷ []) left i = absurd (further (ap (place one) (leads_behind one text u [] left x rest i.reads here) ∙ sym i.at_is))
      of (u ∷ v ∷ us) left i = let l = leads_behind one text u (v ∷ us) left x rest i.reads here in (v, l.0, l.1)

  -- ---- within the header

  pub equals_or_two : IsWanted false (a_pl ∷ []) w.EqualsOrTwo
  equals_or_two t = (λ (b, of). there t b, λ e. back t e)
    where
      by_run : (t : Token) → Begins true (a_pl ∷ t ∷ []) → IsTrue (is_wanted w.EqualsOrTwo t)
      by_run the_end b = absurd (let e = (runs_if (a_pl ∷ the_end ∷ []) b).1 in cc)
      by_run (word k) b = absurd (let e = (runs_if (a_pl ∷ word k ∷ []) b).1 in cc)
      by_run (name x) b = absurd (let e = (runs_if (a_pl ∷ name x ∷ []) b).1 in cc)
      by_run (number n) b = absurd (let e = (runs_if (a_pl ∷ number n ∷ []) b).1 in cc)
      by_run (sign Equals) b = refl
      by_run (sign OpenParen) b = absurd (let e = (runs_if (a_pl ∷ sign OpenParen ∷ []) b).1 in cc)
      by_run (sign CloseParen) b = absurd (let e = (runs_if (a_pl ∷ sign CloseParen ∷ []) b).1 in cc)
      by_run (sign Comma) b = absurd (let e = (runs_if (a_pl ∷ sign Comma ∷ []) b).1 in cc)
      by_run (sign Semicolon) b = absurd (let e = (runs_if (a_pl ∷ sign Semicolon ∷ []) b).1 in cc)
      by_run (sign OpenBrace) b = absurd (let e = (runs_if (a_pl ∷ sign OpenBrace ∷ []) b).1 in cc)
      by_run (sign CloseBrace) b = absurd (let e = (runs_if (a_pl ∷ sign CloseBrace ∷ []) b).1 in cc)
      by_run (sign Plus) b = absurd (let e = (runs_if (a_pl ∷ sign Plus ∷ []) b).1 in cc)
      by_run (sign Minus) b = absurd (let e = (runs_if (a_pl ∷ sign Minus ∷ []) b).1 in cc)

      there : (t : Token) → Begins false (a_pl ∷ t ∷ []) → IsTrue (is_wanted w.EqualsOrTwo t)
      there t (inl b) = by_run t b
      there t (inr (more, e)) = (let is : t ≡ number 2 = cc in ap (is_wanted w.EqualsOrTwo) is)

      back : (t : Token) → is_wanted w.EqualsOrTwo t ≡ true → Begins false (a_pl ∷ t ∷ []) × IsTokenOf false t
      back (number n) e = (let n2 : n ≡ 2 = grind (arith, nat_tests) in inr (sign Semicolon ∷ [], ap (λ k. a_pl ∷ number k ∷ sign Semicolon ∷ []) n2), tt)
      back (sign Equals) e = (inl (begins_if (a_pl ∷ sign Equals ∷ []) _ refl), tt)
      back the_end e = absurd cc
      back (word k) e = absurd cc
      back (name x) e = absurd cc
      back (sign OpenParen) e = absurd cc
      back (sign CloseParen) e = absurd cc
      back (sign Comma) e = absurd cc
      back (sign Semicolon) e = absurd cc
      back (sign OpenBrace) e = absurd cc
      back (sign CloseBrace) e = absurd cc
      back (sign Plus) e = absurd cc
      back (sign Minus) e = absurd cc

  pub a_semicolon : IsWanted false (a_pl ∷ number 2 ∷ []) (w.Sign Semicolon)
  a_semicolon t = (λ (b, of). there b, λ e. back t e)
    where
      there : Begins false (a_pl ∷ number 2 ∷ t ∷ []) → IsTrue (is_wanted (w.Sign Semicolon) t)
      there (inl b) = absurd (let e = (runs_if (a_pl ∷ number 2 ∷ t ∷ []) b).1 in cc)
      there (inr (more, e)) = (let is : t ≡ sign Semicolon = cc in ap (is_wanted (w.Sign Semicolon)) is)

      back : (t : Token) → is_wanted (w.Sign Semicolon) t ≡ true → Begins false (a_pl ∷ number 2 ∷ t ∷ []) × IsTokenOf false t
      back (sign Semicolon) e = (inr ([], refl), tt)
      back (number n) e = absurd cc
      back (sign Equals) e = absurd cc
      back the_end e = absurd cc
      back (word k) e = absurd cc
      back (name x) e = absurd cc
      back (sign OpenParen) e = absurd cc
      back (sign CloseParen) e = absurd cc
      back (sign Comma) e = absurd cc
      back (sign OpenBrace) e = absurd cc
      back (sign CloseBrace) e = absurd cc
      back (sign Plus) e = absurd cc
      back (sign Minus) e = absurd cc

  stand_of : (b : HasFault text f) (before : List Token) (stand : GrammarStand) → b.two ≡ false → b.before ≡ before → StandsBehind text false before stand → IsStand text f stand
  stand_of b before stand e is s = record {
    found = b;
    stands = subst (λ x. StandsBehind text x b.before stand) (sym e) (subst (λ x. StandsBehind text false x stand) (sym is) s);
  }

  -- in a header the fault is farther on
  past_in_two : (ts : List Token) (rest : List ℕ) (t : Token) (us : List Token) (before : List Token) (left : List ℕ) (i : InTwo text f before left) → length rest ≤ length text →
      NoEnd (t ∷ us) → Leads one rest (t ∷ us) i.mid → place one rest ≡ f.at → ⊥
  past_in_two ts rest t us before left i fits n l at =
      let past = place_past one rest t us i.mid fits n l in
      let on = place_on (scan_of true text) i.mid before left (leads_le (t ∷ us) rest i.mid fits l) i.no_end i.reads in
      let is = i.at_is in
      omega arith
    where
      leads_le : (ts : List Token) (rest end : List ℕ) → length rest ≤ length text → Leads one rest ts end → length end ≤ length text
      leads_le [] rest end w l = subst (λ x. length x ≤ length text) l w
      leads_le (u ∷ us) rest end w (m, here, l) = leads_le us m end (let g = front_le one rest u m here in omega arith) l

  module _ (b : HasFault text f) (x : Token) (rest : List ℕ) (here : front one text ≡ Ok (x, rest)) (pl : is_pl x ≡ true) (far : place one text ≡ f.at → ⊥) where
    fits_rest : length rest ≤ length text
    fits_rest = front_le one text x rest here

    pub inside_pl : place one rest ≡ f.at → IsStand text f (record { wanted = w.EqualsOrTwo; behind = behind.Header; brace = None })
    inside_pl at = elim (fault_cases text f b) [
      | inl i ↦
          let is = of b.before b.left i.1 in
          stand_of b (a_pl ∷ []) (record { wanted = w.EqualsOrTwo; behind = behind.Header; brace = None }) i.0 is
          (record { wanted = equals_or_two; behind = refl; brace = λ n. refl })
      | inr i ↦
          let j = i.1 in
          absurd (past_in_two [] rest (number 2) (sign Semicolon ∷ []) b.before b.left j fits_rest header_no_end.1
          (leads_behind one text a_pl (number 2 ∷ sign Semicolon ∷ []) j.mid x rest j.header_is here) at)
    ]
      where
        of : (before : List Token) (left : List ℕ) → InOne text f before left → before ≡ a_pl ∷ []
        of [] left i = absurd (far (ap (place one) i.reads ∙ sym i.at_is))
        of (u ∷ us) left i =
            let l = leads_behind one text u us left x rest i.reads here in
            let none : us ≡ [] = none_read one rest us left fits_rest i.no_end.1 l (at ∙ i.at_is) in
            let first : u ≡ a_pl = (ok_pair (u, i.reads.0) (x, rest) (sym i.reads.1 ∙ here)).0 ∙ pl_is x pl in
            ap (λ z. z ∷ us) first ∙ ap (λ z. a_pl ∷ z) none

    pub inside_two : (y : Token) (after : List ℕ) → (place one rest ≡ f.at → ⊥) → front one rest ≡ Ok (y, after) → is_two y ≡ true → place one after ≡ f.at →
        IsStand text f (record { wanted = w.Sign Semicolon; behind = behind.Other; brace = None })
    inside_two y after further there two at = elim (fault_cases text f b) [
      | inl i ↦
          let is = of b.before b.left i.1 in
          stand_of b (a_pl ∷ number 2 ∷ []) (record { wanted = w.Sign Semicolon; behind = behind.Other; brace = None }) i.0 is
          (record { wanted = a_semicolon; behind = refl; brace = λ n. refl })
      | inr i ↦
          let j = i.1 in
          let l = leads_behind one text a_pl (number 2 ∷ sign Semicolon ∷ []) j.mid x rest j.header_is here in
          absurd (past_in_two [] after (sign Semicolon) [] b.before b.left j (let g = front_le one rest y after there in let h = fits_rest in omega arith) header_no_end.1.1
          (leads_behind one rest (number 2) (sign Semicolon ∷ []) j.mid y after l there) at)
    ]
      where
        of : (before : List Token) (left : List ℕ) → InOne text f before left → before ≡ a_pl ∷ number 2 ∷ []
        of [] left i = absurd (far (ap (place one) i.reads ∙ sym i.at_is))
        of (u ∷ []) left i = absurd (further (ap (place one) (leads_behind one text u [] left x rest i.reads here) ∙ sym i.at_is))
        of (u ∷ v ∷ us) left i =
            let l = leads_behind one text u (v ∷ us) left x rest i.reads here in
            let m = leads_behind one rest v us left y after l there in
            let none : us ≡ [] = none_read one after us left (let g = front_le one rest y after there in let h = fits_rest in omega arith) i.no_end.1.1 m (at ∙ i.at_is) in
            let first : u ≡ a_pl = (ok_pair (u, i.reads.0) (x, rest) (sym i.reads.1 ∙ here)).0 ∙ pl_is x pl in
            let second : v ≡ number 2 = (ok_pair (v, l.0) (y, after) (sym l.1 ∙ there)).0 ∙ two_is y two in
            ap (λ z. z ∷ v ∷ us) first ∙ (ap (λ z. a_pl ∷ z ∷ us) second ∙ ap (λ z. a_pl ∷ number 2 ∷ z) none)

  -- ---- behind the header, or without one

  pub comes_two : (b : HasFault text f) (body : List ℕ) → Leads one text header body → WalkComesTo text true body f.at b.before
  comes_two b body leads = elim (fault_cases text f b) [
    | inl x ↦ absurd (let q = sym x.0 ∙ two_by_header text body f b leads in cc)
    | inr x ↦
        let i = x.1 in
        record {
          left = b.left;
          reads = subst (λ m. Leads (scan_of true text) m b.before b.left) (one_rest one text header i.mid body i.header_is leads) i.reads;
          goes_on = i.goes_on;
          only = λ t h. h;
          at_is = i.at_is;
        }
  ]

  pub is_one : (b : HasFault text f) → ((mid : List ℕ) → Leads one text header mid → ⊥) → b.two ≡ false
  is_one b none = elim (fault_cases text f b) [ inl x ↦ x.0 | inr x ↦ (let i = x.1 in absurd (none i.mid i.header_is)) ]

  pub comes_one : (b : HasFault text f) → ((mid : List ℕ) → Leads one text header mid → ⊥) → IsOutside text f → WalkComesTo text false text f.at b.before
  comes_one b none outside =
      let e = is_one b none in
      let i = in_one text f b e in
      record {
        left = b.left;
        reads = i.reads;
        goes_on = (i.goes_on.0, outside b e i.goes_on.0 i.goes_on.1);
        only = λ t h. outside b e t h;
        at_is = i.at_is;
      }

  -- what stands behind the tokens before the fault is what stands at the fault
  pub at_fault : (b : HasFault text f) (two : Bool) (stand : GrammarStand) → b.two ≡ two → StandsBehind text two b.before stand → IsStand text f stand
  at_fault b two stand e s = record { found = b; stands = subst (λ x. StandsBehind text x b.before stand) (sym e) s }

-- the fault stands in the text
pub fault_within : (text : List ℕ) (f : SyntaxFault) → HasFault text f → f.at ≤ length text
fault_within text f b = elim (fault_cases text f b) [
  | inl x ↦ (let i = x.1 in let e = i.at_is in omega arith)
  | inr x ↦ (let i = x.1 in let e = i.at_is in omega arith)
]
