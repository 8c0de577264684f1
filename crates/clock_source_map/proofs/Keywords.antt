-- The keywords of a text, token by token.
use Rattle.std.proofs.Common.{◌≡◌, ℕ, List, [], ◌∷◌, ◌++◌, Ok, refl, sym, ap, subst, ◌∙◌, append_assoc, append-nil}
use Rattle.pl_syntax.specs.declared.scan.Scan.{Scan}
use Rattle.pl_syntax.specs.Tokens.{Leads, Token, front, name, number, place, sign, the_end, word}
use Rattle.pl_syntax.proofs.Fronts.{end_in_front, ok_pair}
use Rattle.clock_syntax.specs.Grammar.{IsClockText, clock_scan, clock_sentence}
use Rattle.clock_syntax.specs.Trees.{ClockTree}
use Rattle.clock_source_map.specs.ClockOffsets.{clock_offsets, keyword_offsets, left_behind, with_keyword}

-- one more before others
with_more : (t : Token) (o : ℕ) (xs : List ℕ) → with_keyword t o xs ≡ with_keyword t o [] ++ xs
with_more the_end o xs = refl
with_more (sign s) o xs = refl
with_more (word k) o xs = refl
with_more (name x) o xs = refl
with_more (number n) o xs = refl

-- at the end of a text stands the end alone
pub front_of_nothing : (scan : Scan) → front scan [] ≡ Ok (the_end, [])
unfolding front
front_of_nothing scan = refl

nothing_left : (scan : Scan) (ts : List Token) → Leads scan [] ts [] → keyword_offsets scan ts [] ≡ []
nothing_left scan [] leads = refl
nothing_left scan (t ∷ ts) (mid, here, more) =
    let same = ok_pair (t, mid) (the_end, []) (sym here ∙ front_of_nothing scan) in
    ap (λ u. with_keyword u (place scan []) (keyword_offsets scan ts (left_behind (front scan [])))) same.0
    ∙ ap (λ f. keyword_offsets scan ts (left_behind f)) (front_of_nothing scan)
    ∙ nothing_left scan ts (subst (λ m. Leads scan m ts []) same.1 more)

-- the offsets that are found, with those of the tokens to come, are those of the text
pub record Sought (text : List ℕ) (p : ClockTree) (offsets rest : List ℕ) : Type 0 where
  pub behind : List Token
  pub reads : Leads (clock_scan text) rest behind []
  pub all : offsets ++ keyword_offsets (clock_scan text) behind rest ≡ clock_offsets text p

pub sought_first : (text : List ℕ) (p : ClockTree) → IsClockText text p → Sought text p [] text
sought_first text p is = record { behind = clock_sentence p; reads = is.reads; all = refl }

module _ (text : List ℕ) (p : ClockTree) (offsets rest : List ℕ) where
  -- there is a token
  pub sought_some : Sought text p offsets rest → (t : Token) × (after : List ℕ) × (front (clock_scan text) rest ≡ Ok (t, after))
  sought_some h = some h.behind h.reads
    where
      some : (behind : List Token) → Leads (clock_scan text) rest behind [] → (t : Token) × (after : List ℕ) × (front (clock_scan text) rest ≡ Ok (t, after))
      some [] leads = (the_end, [], ap (front (clock_scan text)) leads ∙ front_of_nothing (clock_scan text))
      some (t ∷ ts) (mid, here, more) = (t, mid, here)

  -- behind a token that is not the end
  pub sought_on : (t : Token) (after : List ℕ) → Sought text p offsets rest → front (clock_scan text) rest ≡ Ok (t, after) → (t ≡ the_end → ⊥) →
      Sought text p (offsets ++ with_keyword t (place (clock_scan text) rest) []) after
  sought_on t after h here goes = on h.behind h.reads h.all
    where
      on : (behind : List Token) → Leads (clock_scan text) rest behind [] → offsets ++ keyword_offsets (clock_scan text) behind rest ≡ clock_offsets text p →
          Sought text p (offsets ++ with_keyword t (place (clock_scan text) rest) []) after
      on [] leads all =
          absurd (goes (ok_pair (t, after) (the_end, []) (sym here ∙ ap (front (clock_scan text)) leads ∙ front_of_nothing (clock_scan text))).0)
      on (u ∷ us) (mid, there, more) all =
          let same = ok_pair (u, mid) (t, after) (sym there ∙ here) in
          record {
            behind = us;
            reads = subst (λ m. Leads (clock_scan text) m us []) same.1 more;
            all = append_assoc offsets (with_keyword t (place (clock_scan text) rest) []) (keyword_offsets (clock_scan text) us after)
                ∙ ap (λ z. offsets ++ z) (sym (with_more t (place (clock_scan text) rest) (keyword_offsets (clock_scan text) us after))
                ∙ ap (λ m. with_keyword t (place (clock_scan text) rest) (keyword_offsets (clock_scan text) us (left_behind m))) (sym here)
                ∙ ap (λ v. with_keyword v (place (clock_scan text) rest) (keyword_offsets (clock_scan text) us (left_behind (front (clock_scan text) rest)))) (sym same.0))
                ∙ all;
          }

  -- and at the end
  pub sought_all : (after : List ℕ) → Sought text p offsets rest → front (clock_scan text) rest ≡ Ok (the_end, after) → offsets ≡ clock_offsets text p
  sought_all after h here = all h.behind h.reads h.all
    where
      all : (behind : List Token) → Leads (clock_scan text) rest behind [] → offsets ++ keyword_offsets (clock_scan text) behind rest ≡ clock_offsets text p →
          offsets ≡ clock_offsets text p
      all [] leads e = sym (append-nil offsets) ∙ e
      all (u ∷ us) (mid, there, more) e =
          let same = ok_pair (u, mid) (the_end, after) (sym there ∙ here) in
          let none : after ≡ [] = end_in_front (clock_scan text) rest after here in
          let left : Leads (clock_scan text) [] us [] = subst (λ m. Leads (clock_scan text) m us []) (same.1 ∙ none) more in
          sym (append-nil offsets)
          ∙ ap (λ z. offsets ++ z) (sym (ap (λ v. with_keyword v (place (clock_scan text) rest) (keyword_offsets (clock_scan text) us (left_behind (front (clock_scan text) rest)))) same.0
          ∙ ap (λ f. keyword_offsets (clock_scan text) us (left_behind f)) here
          ∙ ap (keyword_offsets (clock_scan text) us) none
          ∙ nothing_left (clock_scan text) us left))
          ∙ e
