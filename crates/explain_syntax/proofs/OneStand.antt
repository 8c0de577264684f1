-- The grammar says one thing only of the place of a first fault, and it says something.
use Rattle.std.proofs.Common.{◌≡◌, ℕ, ◌≤◌, Bool, true, false, List, [], ◌∷◌, length, refl, sym, ap, subst, ◌∙◌, arith, inl, inr}
use Rattle.std.proofs.Math.Path.{fun_ext}
use Rattle.std.specs.Prelude.{Option, if◌then◌else◌}
use Rattle.pl_syntax.specs.declared.fault.SyntaxFault.{SyntaxFault}
use Rattle.pl_syntax.specs.declared.token.Keyword.TheVariants as k
use Rattle.pl_syntax.specs.declared.token.Sign.TheVariants as s
use Rattle.pl_syntax.specs.Tokens.{Token, the_end, sign, word, name, number, Leads}
use Rattle.pl_syntax.specs.Grammar.{HasFault, header, scan_of}
use Rattle.pl_syntax.proofs.Beginnings.{one_rest}
use Rattle.pl_syntax.proofs.Fronts.{front_le}
use Rattle.explain_syntax.specs.declared.stand.Behind.{Behind}
use Rattle.explain_syntax.specs.declared.stand.GrammarStand.{GrammarStand}
use Rattle.explain_syntax.specs.declared.wanted.WantedTokens.{WantedTokens}
use Rattle.explain_syntax.specs.declared.wanted.WantedTokens.TheVariants as w
use Rattle.explain_syntax.specs.calls.Laws.{HasOneStand}
use Rattle.explain_syntax.specs.Stands.{StandsBehind}
use Rattle.explain_syntax.specs.Wanted.{IsWanted, is_wanted}
use Rattle.explain_syntax.proofs.Places.{same_tokens}
use Rattle.explain_syntax.proofs.Braces.{one_brace}
use Rattle.explain_syntax.proofs.Header.{fault_cases, two_by_header}

-- ---- what is wanted is one thing

-- what is wanted, told by which tokens are
abbrev told : (Token → Bool) → WantedTokens
told f =
    if f the_end then w.StatementOrEnd
    else (if f (name []) then (if f (sign s.CloseBrace) then w.StatementOrBrace else w.Name)
    else (if f (number 0) then w.Number
    else (if f (number 2) then w.EqualsOrTwo
    else (if f (word k.NewTid) then w.Maker
    else (if f (sign s.Plus) then (if f (sign s.CloseParen) then w.ParenOrOffset else w.Sign s.Plus)
    else (if f (sign s.Equals) then w.Sign s.Equals
    else (if f (sign s.OpenParen) then w.Sign s.OpenParen
    else (if f (sign s.CloseParen) then w.Sign s.CloseParen
    else (if f (sign s.Comma) then w.Sign s.Comma
    else (if f (sign s.Semicolon) then w.Sign s.Semicolon
    else (if f (sign s.OpenBrace) then w.Sign s.OpenBrace
    else (if f (sign s.CloseBrace) then w.Sign s.CloseBrace else w.Sign s.Minus))))))))))))

told_is : (x : WantedTokens) → told (is_wanted x) ≡ x
told_is w.StatementOrBrace = refl
told_is w.StatementOrEnd = refl
told_is w.EqualsOrTwo = refl
told_is w.ParenOrOffset = refl
told_is (w.Sign s.Equals) = refl
told_is (w.Sign s.OpenParen) = refl
told_is (w.Sign s.CloseParen) = refl
told_is (w.Sign s.Comma) = refl
told_is (w.Sign s.Semicolon) = refl
told_is (w.Sign s.OpenBrace) = refl
told_is (w.Sign s.CloseBrace) = refl
told_is (w.Sign s.Plus) = refl
told_is (w.Sign s.Minus) = refl
told_is w.Name = refl
told_is w.Number = refl
told_is w.Maker = refl

same_bool : (a b : Bool) → (a ≡ true → b ≡ true) → (b ≡ true → a ≡ true) → a ≡ b
same_bool true b f g = sym (f refl)
same_bool false true f g = g refl
same_bool false false f g = refl

one_wanted : (two : Bool) (before : List Token) (x y : WantedTokens) → IsWanted two before x → IsWanted two before y → x ≡ y
one_wanted two before x y p q =
    let same : is_wanted x ≡ is_wanted y = fun_ext (λ t. same_bool (is_wanted x t) (is_wanted y t) (λ e. (q t).0 ((p t).1 e)) (λ e. (p t).0 ((q t).1 e))) in
    sym (told_is x) ∙ (ap told same ∙ told_is y)

-- ---- the place of the fault is one

leads_le : (text : List ℕ) (ts : List Token) (rest end : List ℕ) → length rest ≤ length text → Leads (scan_of false text) rest ts end → length end ≤ length text
leads_le text [] rest end fits l = subst (λ x. length x ≤ length text) l fits
leads_le text (u ∷ us) rest end fits (m, here, l) = leads_le text us m end (let g = front_le (scan_of false text) rest u m here in omega arith) l

one_before : (text : List ℕ) (f : SyntaxFault) (a b : HasFault text f) → (a.two ≡ b.two) × (a.before ≡ b.before)
one_before text f a b = elim (fault_cases text f a) [
  | inl x ↦ elim (fault_cases text f b) [
    | inl y ↦ (
      x.0 ∙ sym y.0,
      (let i = x.1 in let j = y.1 in
          same_tokens (scan_of false text) text a.before b.before a.left b.left (omega arith) i.no_end j.no_end i.reads j.reads (sym i.at_is ∙ j.at_is)),
    )
    | inr y ↦ (let j = y.1 in absurd (let e = sym x.0 ∙ two_by_header text j.mid f a j.header_is in cc))
  ]
  | inr x ↦ elim (fault_cases text f b) [
    | inl y ↦ (let i = x.1 in absurd (let e = sym y.0 ∙ two_by_header text i.mid f b i.header_is in cc))
    | inr y ↦ (
      x.0 ∙ sym y.0,
      (let i = x.1 in let j = y.1 in
          let mid : i.mid ≡ j.mid = one_rest (scan_of false text) text header i.mid j.mid i.header_is j.header_is in
          same_tokens (scan_of true text) j.mid a.before b.before a.left b.left (leads_le text header text j.mid (omega arith) j.header_is) i.no_end j.no_end
          (subst (λ m. Leads (scan_of true text) m a.before a.left) mid i.reads) j.reads (sym i.at_is ∙ j.at_is)),
    )
  ]
]

stand_is : (x y : WantedTokens) (b c : Behind) (o p : Option ℕ) → x ≡ y → b ≡ c → o ≡ p →
    ◌≡◌ {A = GrammarStand} (record { wanted = x; behind = b; brace = o }) (record { wanted = y; behind = c; brace = p })
stand_is x y b c o p e f g = cc

same_stand : (text : List ℕ) (two : Bool) (before : List Token) (a b : GrammarStand) → StandsBehind text two before a → StandsBehind text two before b → a ≡ b
same_stand text two before a b p q =
    stand_is a.wanted b.wanted a.behind b.behind a.brace b.brace (one_wanted two before a.wanted b.wanted p.wanted q.wanted) (p.behind ∙ sym q.behind)
    (one_brace text two before a.brace b.brace p.brace q.brace)

pub one_stand : HasOneStand
one_stand text f a b p q =
    let same = one_before text f p.found q.found in
    same_stand text q.found.two q.found.before a b
    (subst (λ x. StandsBehind text x q.found.before a) same.0 (subst (λ x. StandsBehind text p.found.two x a) same.1 p.stands)) q.stands
