-- The walk comes to the place, and no farther.
use Rattle.std.proofs.Common.{◌≡◌, ℕ, ◌≤◌, Bool, true, List, [], ◌∷◌, ◌++◌, length, Ok, refl, sym, ap, subst, ◌∙◌, append_assoc, append-nil, arith}
use Rattle.std.specs.Prelude.{Option, is_some, reverse}
use Rattle.pl_syntax.specs.Tokens.{Token, the_end, front, place}
use Rattle.pl_syntax.specs.Grammar.{Begins, ReadsTokens, scan_of}
use Rattle.pl_syntax.proofs.Fronts.{front_le, ok_pair}
use Rattle.explain_syntax.specs.declared.shape.Shape.{Shape}
use Rattle.explain_syntax.specs.declared.stand.Behind.{Behind}
use Rattle.explain_syntax.specs.declared.stand.Behind.TheVariants.{Other}
use Rattle.explain_syntax.specs.declared.stand.GrammarStand.{GrammarStand}
use Rattle.explain_syntax.specs.declared.wanted.WantedTokens.{WantedTokens}
use Rattle.explain_syntax.specs.Stands.{StandsBehind, first_as_name}
use Rattle.explain_syntax.specs.inside.OpenBraces.{braces_after, first_brace}
use Rattle.explain_syntax.specs.inside.Shapes.{shapes_after, wanted_by}
use Rattle.explain_syntax.specs.inside.Walking.{WalkComesTo}
use Rattle.explain_syntax.proofs.Places.{NoEnd, none_read}
use Rattle.explain_syntax.proofs.Walked.{Walked, no_end, runs_before, stands, walked_more, walked_none}

-- of the tokens before a place, some are behind the walk and the others before it
abbrev pub Parts : (text : List ℕ) (two : Bool) (left rest : List ℕ) (shapes : List Shape) (braces : List ℕ) (behind : Behind) (before : List Token) → Type 0
Parts text two left rest shapes braces behind before =
    (done : List Token) × (todo : List Token) × (before ≡ done ++ todo) × Walked text two left done todo rest shapes braces behind

-- whichever tokens stand before the place
pub record OnTheWay (text : List ℕ) (two : Bool) (body : List ℕ) (at : ℕ) (rest : List ℕ) (shapes : List Shape) (braces : List ℕ) (behind : Behind) : Type 0 where
  pub fits : length rest ≤ length text
  pub parts : (before : List Token) (c : WalkComesTo text two body at before) → Parts text two c.left rest shapes braces behind before

NoEnd-right : (ts us : List Token) → NoEnd (ts ++ us) → NoEnd us
NoEnd-right [] us n = n
NoEnd-right (t ∷ ts) us n = NoEnd-right ts us n.1

module _ (text : List ℕ) (two : Bool) (body : List ℕ) (at : ℕ) where
  pub on_first : (braces : List ℕ) → braces ≡ [] → length body ≤ length text → ReadsTokens two text [] body → OnTheWay text two body at body [] braces Other
  on_first braces none fits header = record {
    fits = fits;
    parts = λ before c. (
      [],
      before,
      refl,
      subst (λ b. Walked text two c.left [] before body [] b Other) (sym none)
          (walked_none text two body c.left before header c.reads (runs_before before c.goes_on)),
    );
  }

  module _ (rest : List ℕ) (shapes : List Shape) (braces : List ℕ) (behind : Behind) (on : OnTheWay text two body at rest shapes braces behind) where
    -- the tokens that are still to be read are none of the end
    todo_no_end : (left : List ℕ) (done todo : List Token) → Walked text two left done todo rest shapes braces behind → NoEnd todo
    todo_no_end left done todo w = NoEnd-right done todo (no_end (done ++ todo) [] 0 w.whole.0 w.whole.1 w.whole.2)

    token_of : (before : List Token) (c : WalkComesTo text two body at before) (done todo : List Token) → Walked text two c.left done todo rest shapes braces behind →
        (place (scan_of two text) rest ≡ at → ⊥) → (t : Token) × (after : List ℕ) × (front (scan_of two text) rest ≡ Ok (t, after)) × (t ≡ the_end → ⊥)
    token_of before c done [] w far = absurd (far (ap (place (scan_of two text)) w.goes ∙ sym c.at_is))
    token_of before c done (t ∷ todo) w far = (t, w.goes.0, w.goes.1, (todo_no_end c.left done (t ∷ todo) w).0)

    -- before the place stands a token
    pub next_token : ((before : List Token) × WalkComesTo text two body at before) → (place (scan_of two text) rest ≡ at → ⊥) →
        (t : Token) × (after : List ℕ) × (front (scan_of two text) rest ≡ Ok (t, after)) × (t ≡ the_end → ⊥)
    next_token (before, c) far = let p = on.parts before c in token_of before c p.0 p.1 p.3 far

    -- which is not the end
    pub not_end : ((before : List Token) × WalkComesTo text two body at before) → (place (scan_of two text) rest ≡ at → ⊥) → (u : Token) (after : List ℕ) →
        front (scan_of two text) rest ≡ Ok (u, after) → u ≡ the_end → ⊥
    not_end some far u after here is =
        let n = next_token some far in
        n.3 ((ok_pair (n.0, n.1) (u, after) (sym n.2 ∙ here)).0 ∙ is)

    step_on : (before : List Token) (c : WalkComesTo text two body at before) (done todo : List Token) → before ≡ done ++ todo → Walked text two c.left done todo rest shapes braces behind →
        (place (scan_of two text) rest ≡ at → ⊥) → (u : Token) (after : List ℕ) → front (scan_of two text) rest ≡ Ok (u, after) →
        Parts text two c.left after (shapes_after shapes u) (braces_after u (place (scan_of two text) rest) braces) (first_as_name (u ∷ [])) before
    step_on before c done [] e w far u after here = absurd (far (ap (place (scan_of two text)) w.goes ∙ sym c.at_is))
    step_on before c done (t ∷ todo) e w far u after here =
        let same = ok_pair (t, w.goes.0) (u, after) (sym w.goes.1 ∙ here) in (
          done ++ u ∷ [],
          todo,
          e ∙ (ap (λ x. done ++ x ∷ todo) same.0 ∙ sym (append_assoc done (u ∷ []) todo)),
          walked_more text two c.left done t todo rest shapes braces behind u after w here,
        )

    -- behind it the walk goes on
    pub on_more : (place (scan_of two text) rest ≡ at → ⊥) → (u : Token) (after : List ℕ) → front (scan_of two text) rest ≡ Ok (u, after) →
        OnTheWay text two body at after (shapes_after shapes u) (braces_after u (place (scan_of two text) rest) braces) (first_as_name (u ∷ []))
    on_more far u after here = record {
      fits = (let f = front_le (scan_of two text) rest u after here in let g = on.fits in omega arith);
      parts = λ before c. let p = on.parts before c in step_on before c p.0 p.1 p.2 p.3 far u after here;
    }

    -- at the place nothing is left to be read
    pub arrives : place (scan_of two text) rest ≡ at → (before : List Token) → WalkComesTo text two body at before →
        StandsBehind text two before
        (record { wanted = wanted_by two shapes (is_some (first_brace (reverse braces))); behind = behind; brace = first_brace (reverse braces) })
    arrives here before c =
        let p = on.parts before c in
        let none : p.1 ≡ [] = none_read (scan_of two text) rest p.1 c.left on.fits (todo_no_end c.left p.0 p.1 p.3) p.3.goes (here ∙ c.at_is) in
        let all : before ≡ p.0 = p.2 ∙ (ap (λ x. p.0 ++ x) none ∙ append-nil p.0) in
        let w = subst (λ x. Walked text two c.left p.0 x rest shapes braces behind) none p.3 in
        let stand : GrammarStand = record { wanted = wanted_by two shapes (is_some (first_brace (reverse braces))); behind = behind; brace = first_brace (reverse braces) } in
        subst (λ x. StandsBehind text two x stand) (sym all)
        (stands text two c.left p.0 rest shapes braces behind w (subst (λ x. (t : Token) → Begins two (x ++ t ∷ []) → Begins true (x ++ t ∷ [])) all c.only))

    -- the same with other names
    pub arrives_so : place (scan_of two text) rest ≡ at → (wanted : WantedTokens) (brace : Option ℕ) (is_open : Bool) → brace ≡ first_brace (reverse braces) → is_open ≡ is_some brace →
        wanted ≡ wanted_by two shapes is_open → (before : List Token) → WalkComesTo text two body at before →
        StandsBehind text two before (record { wanted = wanted; behind = behind; brace = brace })
    arrives_so here wanted brace is_open b o w before c =
        let all : wanted ≡ wanted_by two shapes (is_some (first_brace (reverse braces))) = w ∙ ap (wanted_by two shapes) (o ∙ ap is_some b) in
        subst (λ x. StandsBehind text two before (record { wanted = x; behind = behind; brace = brace })) (sym all)
        (subst (λ x. StandsBehind text two before (record { wanted = wanted_by two shapes (is_some (first_brace (reverse braces))); behind = behind; brace = x })) (sym b) (arrives here before c))
