-- What the walk over a text has found behind some tokens.
use Rattle.std.proofs.Common.{◌≡◌, ℕ, zero, suc, Bool, true, false, List, [], ◌∷◌, ◌++◌, Option, Some, None, Ok, refl, sym, ap, subst, ◌∙◌, append_assoc, arith, inl}
use Rattle.std.specs.Prelude.{is_some, reverse, ◌↔◌}
use Rattle.std.proofs.lemmas.List.{reverse-append}
use Rattle.pl_syntax.specs.declared.token.Sign.TheVariants.{Equals, OpenParen, CloseParen, Comma, Semicolon, OpenBrace, CloseBrace, Plus, Minus}
use Rattle.pl_syntax.specs.Tokens.{Token, the_end, sign, word, name, number, Leads, front, place}
use Rattle.pl_syntax.specs.Grammar.{Begins, ReadsTokens, open_after, scan_of}
use Rattle.pl_syntax.proofs.Beginnings.{reads_more}
use Rattle.pl_syntax.proofs.Begun.{firsts}
use Rattle.pl_syntax.proofs.Forest.{begins_if, runs_if}
use Rattle.pl_syntax.proofs.Fronts.{ok_pair}
use Rattle.pl_syntax.proofs.Machine as m
use Rattle.pl_syntax.proofs.Machine.{State, at, over, depth_is, go, run, run-append, step}
use Rattle.explain_syntax.specs.declared.shape.Shape.{Shape}
use Rattle.explain_syntax.specs.declared.shape.Shape.TheVariants as s
use Rattle.explain_syntax.specs.declared.stand.Behind.{Behind}
use Rattle.explain_syntax.specs.declared.stand.Behind.TheVariants.{Other}
use Rattle.explain_syntax.specs.Stands.{StandsBehind, first_as_name, last_as_name}
use Rattle.explain_syntax.specs.inside.OpenBraces.{AreOpenBraces, braces_after, first_brace}
use Rattle.explain_syntax.specs.inside.Shapes.{shapes_after, wanted_by}
use Rattle.explain_syntax.proofs.Places.{NoEnd}
use Rattle.explain_syntax.proofs.Braces.{innermost, none_open, open_less, open_more, open_on, popped, some_open}
use Rattle.explain_syntax.proofs.Steps.{AreKnown, after_is, is_some_number, known_after, shapes_of, step_wanted, token_of}

-- ---- the machine behind tokens that go on

-- the machine's state there
abbrev pub Runs : List Token → Type 0
Runs ts = (ss : List m.Shape) × (d : ℕ) × (run firsts (at [] 0) ts ≡ Some (at ss d))

over_stops : (ts : List Token) (ss : List m.Shape) (d : ℕ) → run firsts over ts ≡ Some (at ss d) → ⊥
over_stops [] ss d e = cc
over_stops (t ∷ ts) ss d e = cc

-- a state from which it goes on is not the end
pub open_state : (o : Option State) (ts : List Token) (ss : List m.Shape) (d : ℕ) → go o (λ next. run firsts next ts) ≡ Some (at ss d) →
    (us : List m.Shape) × (n : ℕ) × (o ≡ Some (at us n)) × (run firsts (at us n) ts ≡ Some (at ss d))
open_state None ts ss d e = absurd cc
open_state (Some (at us n)) ts ss d e = (us, n, refl, e)
open_state (Some over) ts ss d e = absurd (over_stops ts ss d e)

no_end_over : (t : Token) (st : State) → go (Some over) (λ next. run firsts next (t ∷ [])) ≡ Some st → ⊥
no_end_over t st e = cc

before_one : (o : Option State) (t : Token) (st : State) → go o (λ next. run firsts next (t ∷ [])) ≡ Some st → (us : List m.Shape) × (n : ℕ) × (o ≡ Some (at us n))
before_one None t st e = absurd cc
before_one (Some (at us n)) t st e = (us, n, refl)
before_one (Some over) t st e = absurd (no_end_over t st e)

-- behind tokens that some token may follow
pub runs_before : (ts : List Token) → ((t : Token) × Begins true (ts ++ t ∷ [])) → Runs ts
runs_before ts (t, b) =
    let r = runs_if (ts ++ t ∷ []) b in
    before_one (run firsts (at [] 0) ts) t r.0 (sym (run-append firsts (at [] 0) ts (t ∷ [])) ∙ r.1)

end_step : (ss : List m.Shape) (d : ℕ) (us : List m.Shape) (n : ℕ) → step firsts (at ss d) the_end ≡ Some (at us n) → ⊥
end_step [] zero us n e = cc
end_step [] (suc d) us n e = cc
end_step (m.a_sign x ∷ ss) d us n e = cc
end_step (m.a_name ∷ ss) d us n e = cc
end_step (m.a_number ∷ ss) d us n e = cc
end_step (m.a_maker ∷ ss) d us n e = cc
end_step (m.an_offset ∷ ss) d us n e = cc
end_step (m.some_names ∷ ss) d us n e = cc
end_step (m.more_names ∷ ss) d us n e = cc

-- none of them is the end
pub no_end : (ts : List Token) (ss : List m.Shape) (d : ℕ) (us : List m.Shape) (n : ℕ) → run firsts (at ss d) ts ≡ Some (at us n) → NoEnd ts
no_end [] ss d us n e = tt
no_end (t ∷ ts) ss d us n e =
    let o = open_state (step firsts (at ss d) t) ts us n e in
    (λ is. end_step ss d o.0 o.1 (ap (step firsts (at ss d)) (sym is) ∙ o.2), no_end ts o.0 o.1 us n o.3)

-- ---- the walk

-- behind some tokens of a text, before others up to a place
pub record Walked (text : List ℕ) (two : Bool) (left : List ℕ) (done todo : List Token) (rest : List ℕ) (shapes : List Shape) (braces : List ℕ) (behind : Behind) : Type 0 where
  pub reads : ReadsTokens two text done rest
  pub goes : Leads (scan_of two text) rest todo left
  pub depth : ℕ
  pub runs : run firsts (at [] 0) done ≡ Some (at (shapes_of shapes) depth)
  pub known : AreKnown shapes
  pub open_ : AreOpenBraces text two done (reverse braces)
  pub behind_is : behind ≡ last_as_name done
  pub whole : Runs (done ++ todo)

-- at the beginning
pub walked_none : (text : List ℕ) (two : Bool) (body left : List ℕ) (before : List Token) → ReadsTokens two text [] body → Leads (scan_of two text) body before left → Runs before →
    Walked text two left [] before body [] [] Other
walked_none text two body left before header goes whole = record {
  reads = header;
  goes = goes;
  depth = 0;
  runs = refl;
  known = tt;
  open_ = λ n. refl;
  behind_is = refl;
  whole = whole;
}

first_name_is : (t : Token) (ts : List Token) → first_as_name (t ∷ []) ≡ first_as_name (t ∷ ts)
first_name_is the_end ts = refl
first_name_is (sign x) ts = refl
first_name_is (word x) ts = refl
first_name_is (name x) ts = refl
first_name_is (number x) ts = refl

name_more : (ts : List Token) (t : Token) → first_as_name (t ∷ []) ≡ last_as_name (ts ++ t ∷ [])
name_more ts t = first_name_is t (reverse ts) ∙ ap first_as_name (sym (reverse-append ts (t ∷ [])))

zero_close : (shapes : List Shape) (us : List m.Shape) (n : ℕ) → AreKnown shapes → step firsts (at (shapes_of shapes) zero) (sign CloseBrace) ≡ Some (at us n) → ⊥
zero_close [] us n k e = cc
zero_close (s.Sign CloseBrace ∷ rest) us n k e = let q = k.0 in cc
zero_close (s.Sign Equals ∷ rest) us n k e = cc
zero_close (s.Sign OpenParen ∷ rest) us n k e = cc
zero_close (s.Sign CloseParen ∷ rest) us n k e = cc
zero_close (s.Sign Comma ∷ rest) us n k e = cc
zero_close (s.Sign Semicolon ∷ rest) us n k e = cc
zero_close (s.Sign OpenBrace ∷ rest) us n k e = cc
zero_close (s.Sign Plus ∷ rest) us n k e = cc
zero_close (s.Sign Minus ∷ rest) us n k e = cc
zero_close (s.Name ∷ rest) us n k e = cc
zero_close (s.Number ∷ rest) us n k e = cc
zero_close (s.Maker ∷ rest) us n k e = cc
zero_close (s.Offset ∷ rest) us n k e = cc

-- text of PL 2 is as it is, and that of PL 1 may begin with a header
pub widen : (two : Bool) (ts : List Token) → Begins true ts → Begins two ts
widen true ts b = b
widen false ts b = inl b

module _ (text : List ℕ) (two : Bool) where
  close_open : (done : List Token) (braces : List ℕ) (open_ : List ℕ) → open_ ≡ reverse braces → AreOpenBraces text two done open_ → (open_after 0 done ≡ 0 → ⊥) →
      AreOpenBraces text two (done ++ sign CloseBrace ∷ []) (reverse (braces_after (sign CloseBrace) 0 braces))
  close_open done braces [] e a some = absurd (some (none_open text two done a))
  close_open done braces (one ∷ more) e a some =
      subst (AreOpenBraces text two (done ++ sign CloseBrace ∷ [])) (sym (popped braces one more (sym e))) (open_less text two done one more a)

  same_open : (done : List Token) (t : Token) (braces : List ℕ) → ((n : ℕ) → open_after n (t ∷ []) ≡ n) → AreOpenBraces text two done (reverse braces) →
      AreOpenBraces text two (done ++ t ∷ []) (reverse braces)
  same_open done t braces same a = open_on text two done (t ∷ []) (reverse braces) a same

  open_step : (t : Token) (done : List Token) (braces rest : List ℕ) → AreOpenBraces text two done (reverse braces) → ReadsTokens two text done rest →
      (t ≡ sign CloseBrace → open_after 0 done ≡ 0 → ⊥) →
      AreOpenBraces text two (done ++ t ∷ []) (reverse (braces_after t (place (scan_of two text) rest) braces))
  open_step (sign OpenBrace) done braces rest a r some =
      subst (AreOpenBraces text two (done ++ sign OpenBrace ∷ [])) (sym (reverse-append braces (place (scan_of two text) rest ∷ []))) (open_more text two done (reverse braces) rest a r)
  open_step (sign CloseBrace) done braces rest a r some = close_open done braces (reverse braces) refl a (some refl)
  open_step (sign Equals) done braces rest a r some = same_open done _ braces (λ n. refl) a
  open_step (sign OpenParen) done braces rest a r some = same_open done _ braces (λ n. refl) a
  open_step (sign CloseParen) done braces rest a r some = same_open done _ braces (λ n. refl) a
  open_step (sign Comma) done braces rest a r some = same_open done _ braces (λ n. refl) a
  open_step (sign Semicolon) done braces rest a r some = same_open done _ braces (λ n. refl) a
  open_step (sign Plus) done braces rest a r some = same_open done _ braces (λ n. refl) a
  open_step (sign Minus) done braces rest a r some = same_open done _ braces (λ n. refl) a
  open_step the_end done braces rest a r some = same_open done _ braces (λ n. refl) a
  open_step (word x) done braces rest a r some = same_open done _ braces (λ n. refl) a
  open_step (name x) done braces rest a r some = same_open done _ braces (λ n. refl) a
  open_step (number x) done braces rest a r some = same_open done _ braces (λ n. refl) a

  -- one token more
  pub walked_more : (left : List ℕ) (done : List Token) (t : Token) (todo : List Token) (rest : List ℕ) (shapes : List Shape) (braces : List ℕ) (behind : Behind) (u : Token) (after : List ℕ) →
      Walked text two left done (t ∷ todo) rest shapes braces behind → front (scan_of two text) rest ≡ Ok (u, after) →
      Walked text two left (done ++ u ∷ []) todo after (shapes_after shapes u) (braces_after u (place (scan_of two text) rest) braces) (first_as_name (u ∷ []))
  walked_more left done t todo rest shapes braces behind u after w here =
      let same = ok_pair (t, w.goes.0) (u, after) (sym w.goes.1 ∙ here) in
      let (ss, d, whole) = w.whole in
      let split : go (run firsts (at [] 0) done) (λ next. run firsts next (t ∷ todo)) ≡ Some (at ss d) = sym (run-append firsts (at [] 0) done (t ∷ todo)) ∙ whole in
      let here_on : go (Some (at (shapes_of shapes) w.depth)) (λ next. run firsts next (t ∷ todo)) ≡ Some (at ss d) =
      subst (λ o. go o (λ next. run firsts next (t ∷ todo)) ≡ Some (at ss d)) w.runs split in
      let next = open_state (step firsts (at (shapes_of shapes) w.depth) t) todo ss d here_on in
      let steps : step firsts (at (shapes_of shapes) w.depth) u ≡ Some (at next.0 next.1) = ap (step firsts (at (shapes_of shapes) w.depth)) (sym same.0) ∙ next.2 in
      let shapes_are = after_is shapes w.depth u next.0 next.1 w.known steps in
      let deep : open_after 0 done ≡ w.depth = depth_is firsts done [] 0 (shapes_of shapes) w.depth w.runs in
      let ran : run firsts (at [] 0) (done ++ u ∷ []) ≡ Some (at next.0 next.1) =
      run-append firsts (at [] 0) done (u ∷ []) ∙ (ap (λ o. go o (λ n. run firsts n (u ∷ []))) w.runs ∙ ap (λ o. go o (λ n. run firsts n [])) steps) in
      record {
        reads = reads_more two text done rest u after w.reads here;
        goes = subst (λ x. Leads (scan_of two text) x todo left) same.1 w.goes.2;
        depth = next.1;
        runs = ran ∙ ap (λ x. Some (at x next.1)) shapes_are;
        known = known_after shapes u w.known;
        open_ = open_step u done braces rest w.open_ w.reads (λ is none. zero_close shapes next.0 next.1 w.known
            (subst (λ x. step firsts (at (shapes_of shapes) x) (sign CloseBrace) ≡ Some (at next.0 next.1)) (sym deep ∙ none)
            (ap (step firsts (at (shapes_of shapes) w.depth)) (sym is) ∙ steps)));
        behind_is = name_more done u;
        whole = (ss, d, ap (run firsts (at [] 0)) (append_assoc done (u ∷ []) todo ∙ ap (λ x. done ++ x ∷ todo) (sym same.0)) ∙ whole);
      }

  -- ---- at the place

  begun_steps : (done : List Token) (ss : List m.Shape) (d : ℕ) (t : Token) → run firsts (at [] 0) done ≡ Some (at ss d) →
      (Begins true (done ++ t ∷ [])) ↔ (is_some (step firsts (at ss d) t) ≡ true)
  begun_steps done ss d t runs = (λ b. there b, λ e. back (step firsts (at ss d) t) refl e)
    where
      one : run firsts (at [] 0) (done ++ t ∷ []) ≡ go (step firsts (at ss d) t) (λ n. run firsts n [])
      one = run-append firsts (at [] 0) done (t ∷ []) ∙ ap (λ o. go o (λ n. run firsts n (t ∷ []))) runs

      some_of : (o : Option State) (st : State) → go o (λ n. run firsts n []) ≡ Some st → is_some o ≡ true
      some_of None st e = absurd cc
      some_of (Some x) st e = refl

      there : Begins true (done ++ t ∷ []) → is_some (step firsts (at ss d) t) ≡ true
      there b = let r = runs_if (done ++ t ∷ []) b in some_of (step firsts (at ss d) t) r.0 (sym one ∙ r.1)

      back : (o : Option State) → step firsts (at ss d) t ≡ o → is_some o ≡ true → Begins true (done ++ t ∷ [])
      back None is e = absurd cc
      back (Some st) is e = begins_if (done ++ t ∷ []) st (one ∙ ap (λ o. go o (λ n. run firsts n [])) is)

  -- whether a brace is open
  open_number : (done : List Token) (braces : List ℕ) (d : ℕ) → AreOpenBraces text two done braces → open_after 0 done ≡ d → is_some (first_brace braces) ≡ is_some_number d
  open_number done [] zero a e = refl
  open_number done [] (suc d) a e = absurd (let p = none_open text two done a in omega arith)
  open_number done (one ∷ more) zero a e = absurd (let p = some_open text two done one more a in omega arith)
  open_number done (one ∷ more) (suc d) a e = refl

  -- what is found behind all tokens
  pub stands : (left : List ℕ) (done : List Token) (rest : List ℕ) (shapes : List Shape) (braces : List ℕ) (behind : Behind) → Walked text two left done [] rest shapes braces behind →
      ((t : Token) → Begins two (done ++ t ∷ []) → Begins true (done ++ t ∷ [])) →
      StandsBehind text two done
      (record { wanted = wanted_by two shapes (is_some (first_brace (reverse braces))); behind = behind; brace = first_brace (reverse braces) })
  stands left done rest shapes braces behind w only =
      let deep : open_after 0 done ≡ w.depth = depth_is firsts done [] 0 (shapes_of shapes) w.depth w.runs in
      let number = open_number done (reverse braces) w.depth w.open_ deep in
      record {
        wanted = λ t.
            let steps = begun_steps done (shapes_of shapes) w.depth t w.runs in (
              λ (b, of). sym (step_wanted two shapes w.depth (is_some (first_brace (reverse braces))) t of number) ∙ steps.0 (only t b),
              λ e.
                  let of = token_of two shapes (is_some (first_brace (reverse braces))) t w.known e in
                  (widen two (done ++ t ∷ []) (steps.1 (step_wanted two shapes w.depth (is_some (first_brace (reverse braces))) t of number ∙ e)), of),
            );
        behind = w.behind_is;
        brace = innermost text two done (reverse braces) w.open_;
      }
