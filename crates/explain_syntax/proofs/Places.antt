-- Places of tokens: behind each token but the end the next one stands farther on.
use Rattle.std.proofs.Common.{◌≡◌, ℕ, ◌-◌, ◌<◌, ◌≤◌, List, [], ◌∷◌, length, Result, Ok, Err, refl, sym, ap, subst, ◌∙◌, arith, inl, inr}
use Rattle.pl_syntax.specs.declared.fault.SyntaxFault.{SyntaxFault}
use Rattle.pl_syntax.specs.declared.scan.Scan.{Scan}
use Rattle.pl_syntax.specs.Words.{is_word_byte}
use Rattle.pl_syntax.specs.Tokens.{Token, the_end, Leads, after_gap, front, place, placed, token_here}
use Rattle.pl_syntax.specs.Grammar.{IsAtFault, cannot_stand, no_token, too_deep}
use Rattle.pl_syntax.proofs.Fronts.{chosen, front_le, gap_le, ok_pair, progress_here}

pub place_further : (scan : Scan) (text : List ℕ) (t : Token) (rest : List ℕ) → length text ≤ scan.total → front scan text ≡ Ok (t, rest) → (t ≡ the_end → ⊥) →
    place scan text < place scan rest
unfolding front
place_further scan text t rest w e f =
    let h = progress_here scan (after_gap text) t rest e f in
    let g = gap_le text in
    let k = gap_le rest in
    omega arith

-- none of these tokens is the end
abbrev pub NoEnd : List Token → Type 0
NoEnd [] = Unit {0}
NoEnd (t ∷ ts) = (t ≡ the_end → ⊥) × NoEnd ts

pub place_on : (scan : Scan) (text : List ℕ) (ts : List Token) (rest : List ℕ) → length text ≤ scan.total → NoEnd ts → Leads scan text ts rest →
    place scan text ≤ place scan rest
place_on scan text [] rest w n l = subst (λ x. place scan text ≤ place scan x) l (omega arith)
place_on scan text (t ∷ ts) rest w n (mid, here, l) =
    let one = place_further scan text t mid w here n.0 in
    let fewer = front_le scan text t mid here in
    let more = place_on scan mid ts rest (omega arith) n.1 l in
    omega arith

pub place_past : (scan : Scan) (text : List ℕ) (t : Token) (ts : List Token) (rest : List ℕ) → length text ≤ scan.total → NoEnd (t ∷ ts) → Leads scan text (t ∷ ts) rest →
    place scan text < place scan rest
place_past scan text t ts rest w n (mid, here, l) =
    let one = place_further scan text t mid w here n.0 in
    let fewer = front_le scan text t mid here in
    let more = place_on scan mid ts rest (omega arith) n.1 l in
    omega arith

-- where the place is the same, nothing was read
pub none_read : (scan : Scan) (text : List ℕ) (ts : List Token) (rest : List ℕ) → length text ≤ scan.total → NoEnd ts → Leads scan text ts rest →
    place scan text ≡ place scan rest → ts ≡ []
none_read scan text [] rest w n l e = refl
none_read scan text (t ∷ ts) rest w n l e = absurd (let past = place_past scan text t ts rest w n l in omega arith)

-- tokens up to one place are the same
pub same_tokens : (scan : Scan) (text : List ℕ) (ts us : List Token) (rest end : List ℕ) → length text ≤ scan.total → NoEnd ts → NoEnd us →
    Leads scan text ts rest → Leads scan text us end → place scan rest ≡ place scan end → ts ≡ us
same_tokens scan text [] us rest end w n m l k e =
    sym (none_read scan text us end w m k (ap (place scan) l ∙ e))
same_tokens scan text (t ∷ ts) [] rest end w n m l k e = none_read scan text (t ∷ ts) rest w n l (ap (place scan) k ∙ sym e)
same_tokens scan text (t ∷ ts) (u ∷ us) rest end w n m (mid, here, l) (mid', there, k) e =
    let same = ok_pair (t, mid) (u, mid') (sym here ∙ there) in
    let fewer = front_le scan text u mid' there in
    let tails = same_tokens scan mid' ts us rest end (omega arith) n.1 m.1 (subst (λ x. Leads scan x ts rest) same.1 l) k e in
    ap (λ x. x ∷ ts) same.0 ∙ ap (λ x. u ∷ x) tails

-- ---- the place of a fault

fault_placed : (at : ℕ) (r : Result Token ℕ) (rest : List ℕ) (f : SyntaxFault) → placed at r rest ≡ Err f → f.at ≡ at
fault_placed at (Ok t) rest f e = absurd cc
fault_placed at (Err kind) rest f e = (let g : record { at = at; kind = kind } ≡ f = cc in sym (ap (λ (x : SyntaxFault). x.at) g))

fault_here : (scan : Scan) (text : List ℕ) (f : SyntaxFault) → token_here scan text ≡ Err f → f.at ≡ scan.total - length text
fault_here scan [] f e = absurd cc
fault_here scan (b ∷ bs) f e =
    elim (chosen (is_word_byte b) _ _ _ e) [
      | inl p ↦ fault_placed _ _ _ f p.1
      | inr p ↦ fault_placed _ _ _ f p.1
    ]

pub fault_in_front : (scan : Scan) (text : List ℕ) (f : SyntaxFault) → front scan text ≡ Err f → f.at ≡ place scan text
unfolding front
fault_in_front scan text f e = fault_here scan (after_gap text) f e

pub fault_at : (Starts : List Token → Type 0) (before : List Token) (scan : Scan) (text : List ℕ) (f : SyntaxFault) → IsAtFault Starts before scan text f → f.at ≡ place scan text
fault_at Starts before scan text f (no_token a) = fault_in_front scan text f a.here
fault_at Starts before scan text f (cannot_stand a) = ap (λ (x : SyntaxFault). x.at) a.fault_is
fault_at Starts before scan text f (too_deep a) = ap (λ (x : SyntaxFault). x.at) a.fault_is

-- ---- the same scan under another name

module _ (s one : Scan) (same : s ≡ one) (x : List ℕ) where
  pub here_at : (r at : ℕ) → r ≡ place s x → r ≡ at → place one x ≡ at
  here_at r at e f = sym (ap (λ s. place s x) same) ∙ (sym e ∙ f)

  pub far_from : (r at : ℕ) → r ≡ place s x → (r ≡ at → ⊥) → place one x ≡ at → ⊥
  far_from r at e f g = f (e ∙ (ap (λ s. place s x) same ∙ g))

  pub found_so : (t : Token) (rest : List ℕ) → front s x ≡ Ok (t, rest) → front one x ≡ Ok (t, rest)
  found_so t rest e = sym (ap (λ s. front s x) same) ∙ e

  pub found_back : ((t : Token) × (rest : List ℕ) × (front one x ≡ Ok (t, rest))) → (t : Token) × (rest : List ℕ) × (front s x ≡ Ok (t, rest))
  found_back (t, rest, e) = (t, rest, ap (λ s. front s x) same ∙ e)
