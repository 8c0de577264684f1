-- The grammar says something of the place of each first fault.
use Rattle.std.proofs.Common.{◌≡◌, ℕ, Bool, true, false, List, [], ◌∷◌, ◌++◌, None, refl, sym, ap, subst, ◌∙◌, append_assoc, append-nil, inl, inr}
use Rattle.std.specs.Prelude.{is_some, reverse}
use Rattle.pl_syntax.specs.declared.fault.SyntaxFault.{SyntaxFault}
use Rattle.pl_syntax.specs.declared.token.Sign.TheVariants.{Semicolon}
use Rattle.pl_syntax.specs.Tokens.{Token, number, Leads, place}
use Rattle.pl_syntax.specs.Grammar.{Begins, HasFault, ReadsTokens, scan_of}
use Rattle.pl_syntax.specs.inside.Reading.{is_pl, is_two}
use Rattle.explain_syntax.specs.declared.shape.Shape.{Shape}
use Rattle.explain_syntax.specs.declared.stand.Behind.{Behind}
use Rattle.explain_syntax.specs.declared.stand.Behind.TheVariants as behind
use Rattle.explain_syntax.specs.declared.stand.GrammarStand.{GrammarStand}
use Rattle.explain_syntax.specs.declared.wanted.WantedTokens.TheVariants as w
use Rattle.explain_syntax.specs.calls.Laws.{HasOneSyntaxRefusal, HasSyntaxRefusal}
use Rattle.explain_syntax.specs.Stands.{IsStand, StandsBehind, first_as_name}
use Rattle.explain_syntax.specs.SyntaxRefusals.{syntax_lines}
use Rattle.explain_syntax.specs.inside.OpenBraces.{braces_after, first_brace}
use Rattle.explain_syntax.specs.inside.Shapes.{shapes_after, wanted_by}
use Rattle.pl_syntax.proofs.Unique.{one_fault}
use Rattle.explain_syntax.proofs.Header.{Only, InOne, a_pl, a_semicolon, equals_or_two, fault_cases, only_first, only_long, only_none, only_second, pl_is, two_is}
use Rattle.explain_syntax.proofs.OneStand.{one_stand}
use Rattle.explain_syntax.proofs.Walked.{Walked, runs_before, stands, walked_more, walked_none}

-- a walk over all tokens finds something
walk_all : (text : List ℕ) (two : Bool) (left : List ℕ) (done todo : List Token) (rest : List ℕ) (shapes : List Shape) (braces : List ℕ) (behind : Behind) →
    Walked text two left done todo rest shapes braces behind →
    ((t : Token) → Begins two ((done ++ todo) ++ t ∷ []) → Begins true ((done ++ todo) ++ t ∷ [])) → (stand : GrammarStand) × StandsBehind text two (done ++ todo) stand
walk_all text two left done [] rest shapes braces behind walked only =
    let none : done ++ [] ≡ done = append-nil done in (
      record { wanted = wanted_by two shapes (is_some (first_brace (reverse braces))); behind = behind; brace = first_brace (reverse braces) },
      subst (λ x. StandsBehind text two x (record { wanted = wanted_by two shapes (is_some (first_brace (reverse braces))); behind = behind; brace = first_brace (reverse braces) })) (sym none)
          (stands text two left done rest shapes braces behind walked
          (subst (λ x. (t : Token) → Begins two (x ++ t ∷ []) → Begins true (x ++ t ∷ [])) none only)),
    )
walk_all text two left done (t ∷ todo) rest shapes braces behind walked only =
    let goes = walked.goes in
    let all : (done ++ t ∷ []) ++ todo ≡ done ++ t ∷ todo = append_assoc done (t ∷ []) todo in
    let found = walk_all text two left (done ++ t ∷ []) todo goes.0 (shapes_after shapes t) (braces_after t (place (scan_of two text) rest) braces) (first_as_name (t ∷ []))
    (walked_more text two left done t todo rest shapes braces behind t goes.0 walked goes.1)
    (subst (λ x. (u : Token) → Begins two (x ++ u ∷ []) → Begins true (x ++ u ∷ [])) (sym all) only) in
    (found.0, subst (λ x. StandsBehind text two x found.0) all found.1)

module _ (text : List ℕ) (f : SyntaxFault) where
  by_walk : (two : Bool) (body left : List ℕ) (before : List Token) → ReadsTokens two text [] body → Leads (scan_of two text) body before left →
      ((t : Token) × Begins true (before ++ t ∷ [])) → ((t : Token) → Begins two (before ++ t ∷ []) → Begins true (before ++ t ∷ [])) →
      (stand : GrammarStand) × StandsBehind text two before stand
  by_walk two body left before header reads goes_on only =
      walk_all text two left [] before body [] [] behind.Other (walked_none text two body left before header reads (runs_before before goes_on)) only

  in_plain : (before : List Token) (left : List ℕ) → InOne text f before left → Only before → (stand : GrammarStand) × StandsBehind text false before stand
  in_plain before left i only = by_walk false text left before refl i.reads (i.goes_on.0, only i.goes_on.0 i.goes_on.1) only

  -- behind `pl`, and behind `pl 2`
  pl_stand : (stand : GrammarStand) × StandsBehind text false (a_pl ∷ []) stand
  pl_stand = (record { wanted = w.EqualsOrTwo; behind = behind.Header; brace = None }, record { wanted = equals_or_two text f; behind = refl; brace = λ n. refl })

  two_stand : (stand : GrammarStand) × StandsBehind text false (a_pl ∷ number 2 ∷ []) stand
  two_stand = (record { wanted = w.Sign Semicolon; behind = behind.Other; brace = None }, record { wanted = a_semicolon text f; behind = refl; brace = λ n. refl })

  cases_two : (x y : Token) (us : List Token) (left : List ℕ) (b : Bool) → is_two y ≡ b → is_pl x ≡ true → InOne text f (x ∷ y ∷ us) left →
      (stand : GrammarStand) × StandsBehind text false (x ∷ y ∷ us) stand
  cases_two x y us left false e p i = in_plain (x ∷ y ∷ us) left i (only_second x y us e)
  cases_two x y [] left true e p i =
      subst (λ z. (stand : GrammarStand) × StandsBehind text false (z ∷ y ∷ []) stand) (sym (pl_is x p))
      (subst (λ z. (stand : GrammarStand) × StandsBehind text false (a_pl ∷ z ∷ []) stand) (sym (two_is y e)) two_stand)
  cases_two x y (z ∷ us) left true e p i = in_plain (x ∷ y ∷ z ∷ us) left i (only_long x y z us)

  cases_pl : (x : Token) (us : List Token) (left : List ℕ) (b : Bool) → is_pl x ≡ b → InOne text f (x ∷ us) left → (stand : GrammarStand) × StandsBehind text false (x ∷ us) stand
  cases_pl x us left false e i = in_plain (x ∷ us) left i (only_first x us e)
  cases_pl x [] left true e i = subst (λ z. (stand : GrammarStand) × StandsBehind text false (z ∷ []) stand) (sym (pl_is x e)) pl_stand
  cases_pl x (y ∷ us) left true e i = cases_two x y us left (is_two y) refl e i

  in_one_stand : (before : List Token) (left : List ℕ) → InOne text f before left → (stand : GrammarStand) × StandsBehind text false before stand
  in_one_stand [] left i = in_plain [] left i only_none
  in_one_stand (x ∷ us) left i = cases_pl x us left (is_pl x) refl i

  pub some_stand : HasFault text f → (stand : GrammarStand) × IsStand text f stand
  some_stand b = elim (fault_cases text f b) [
    | inl x ↦ (let s = in_one_stand b.before b.left x.1 in (s.0, record { found = b; stands = subst (λ z. StandsBehind text z b.before s.0) (sym x.0) s.1 }))
    | inr x ↦
        let i = x.1 in
        let s = by_walk true i.mid b.left b.before (i.mid, i.header_is, refl) i.reads i.goes_on (λ t h. h) in
        (s.0, record { found = b; stands = subst (λ z. StandsBehind text z b.before s.0) (sym x.0) s.1 })
  ]

pub some_refusal : HasSyntaxRefusal
some_refusal file text f b =
    let s = some_stand text f b in
    (syntax_lines file text f s.0, record { stand = s.0; is_stand = s.1; lines_are = refl })

pub one_refusal : HasOneSyntaxRefusal
one_refusal file text f g xs ys p q =
    let faults : f ≡ g = one_fault text f g p.is_stand.found q.is_stand.found in
    let stands : p.stand ≡ q.stand = one_stand text g p.stand q.stand (subst (λ z. IsStand text z p.stand) faults p.is_stand) q.is_stand in
    p.lines_are ∙ (ap (λ z. syntax_lines file text z p.stand) faults ∙ (ap (λ z. syntax_lines file text g z) stands ∙ sym q.lines_are))
