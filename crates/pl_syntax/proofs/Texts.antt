-- The same of lists of statements and of whole texts.
use Rattle.std.proofs.lemmas.Bool.Decides.{nat_tests}
use Rattle.std.proofs.Common.{◌==◌, ◌≡◌, ℕ, Bool, true, false, codes, ◌⊎◌, List, [], ◌∷◌, ◌++◌, Some, None, Ok, Err, refl, sym, ap, subst, ◌∙◌, arith, inl, inr}
use Rattle.pl_syntax.specs.declared.scan.Scan.{Scan}
use Rattle.std.proofs.lemmas.Slice.Eq.{bytes_eq-Decides}
use Rattle.pl_syntax.specs.declared.token.Sign.TheVariants.{Semicolon}
use Rattle.pl_syntax.specs.declared.fault.SyntaxFault.{SyntaxFault}
use Rattle.pl_syntax.specs.declared.tree.Program.{Program}
use Rattle.pl_syntax.specs.Tokens.{Token, the_end, sign, word, name, number, front, Leads}
use Rattle.pl_syntax.specs.Tree.{Tree}
use Rattle.pl_syntax.specs.calls.Bodies.{tree_of}
use Rattle.pl_syntax.specs.Grammar.{header, scan_of, IsText, HasFault, Begins, IsAtFault, no_token, cannot_stand}
use Rattle.pl_syntax.specs.inside.Reading.{◌>>=◌, sign_in, sign_at, is_pl, is_two, behind_two, behind_pl, header_at}
use Rattle.pl_syntax.specs.inside.PlReading.{stmts_at, program_at}
use Rattle.pl_syntax.proofs.Fronts.{chosen, ok_pair}
use Rattle.pl_syntax.proofs.Machine.{a_sign, fits, Shape, State, at, step, run}
use Rattle.pl_syntax.proofs.Begun.{firsts}
use Rattle.pl_syntax.proofs.Forest.{begins_if, runs_if}
use Rattle.pl_syntax.proofs.Leaves.{bind_ok, bind_err, ok_is, sign_ok, sign_fault, Stuck}
use Rattle.pl_syntax.proofs.Stopped.{goes_on_from, stops_by, stuck_here}
use Rattle.pl_syntax.proofs.Statements.{ReadBody, stmts_ok, stmts_err}

-- ---- the header

pl_is : (t : Token) → is_pl t ≡ true → t ≡ name (codes "pl")
pl_is (name x) e = ap name (((bytes_eq-Decides x (codes "pl")).0 e))
pl_is the_end e = absurd cc
pl_is (sign q) e = absurd cc
pl_is (word q) e = absurd cc
pl_is (number q) e = absurd cc

two_is : (t : Token) → is_two t ≡ true → t ≡ number 2
two_is (number k) e = (let same : (k == 2) ≡ true = e in let n : k ≡ 2 = grind (arith, nat_tests) in ap number n)
two_is the_end e = absurd cc
two_is (sign q) e = absurd cc
two_is (word q) e = absurd cc
two_is (name q) e = absurd cc

-- the text is one of PL 1: its first token is not `pl`, or its second is not 2
data IsOne (text : List ℕ) : Type 0 where
  no_pl : (x : Token × List ℕ) → front (scan_of false text) text ≡ Ok x → is_pl x.0 ≡ false → IsOne text
  no_two : (x y : Token × List ℕ) → front (scan_of false text) text ≡ Ok x → front (scan_of false text) x.1 ≡ Ok y → is_two y.0 ≡ false → IsOne text

-- the text is one of PL 1, or its header was read
abbrev Begun : List ℕ → Bool × List ℕ → Type 0
Begun text z = ((z ≡ (false, text)) × IsOne text) ⊎ ((z.0 ≡ true) × Leads (scan_of false text) text header z.1)

module _ (text : List ℕ) where
  abbrev one : Scan
  one = scan_of false text

  behind_ok : (x y : Token × List ℕ) (z : Bool × List ℕ) → front one text ≡ Ok x → is_pl x.0 ≡ true → front one x.1 ≡ Ok y → behind_two one text y ≡ Ok z → Begun text z
  behind_ok x y z first pl second e =
      elim (chosen (is_two y.0) (sign_at one Semicolon y.1 >>= λ rest. Ok (true, rest)) (Ok (false, text)) (Ok z) e) [
        | inl p ↦
            let b = bind_ok (sign_at one Semicolon y.1) _ z p.1 in
            let leads : Leads one text header b.0 = (
              x.1,
              first ∙ ap (λ (t : Token). Ok (t, x.1)) (pl_is x.0 pl),
              (y.1, second ∙ ap (λ (t : Token). Ok (t, y.1)) (two_is y.0 p.0), (b.0, sign_ok one Semicolon y.1 b.0 b.1, refl)),
            ) in
            (let same = ok_is (true, b.0) z b.2 in
            inr (ap (λ (v : Bool × List ℕ). v.0) (sym same), subst (λ (v : Bool × List ℕ). Leads one text header v.1) same leads))
        | inr p ↦ inl (sym (ok_is (false, text) z p.1), no_two x y first second p.0)
      ]

  header_ok : (z : Bool × List ℕ) → header_at one text ≡ Ok z → Begun text z
  unfolding header_at
  header_ok z e =
      let b = bind_ok (front one text) (λ first. behind_pl one text first) z e in
      elim (chosen (is_pl b.0.0) (front one b.0.1 >>= λ second. behind_two one text second) (Ok (false, text)) (Ok z) b.2) [
        | inl p ↦ (let c = bind_ok (front one b.0.1) (λ second. behind_two one text second) z p.1 in behind_ok b.0 c.0 z b.1 p.0 c.1 c.2)
        | inr p ↦ inl (sym (ok_is (false, text) z p.1), no_pl b.0 b.1 p.0)
      ]

-- what begins behind the header, begins in PL 1 too
begins_one : (two : Bool) (ts : List Token) → Begins true ts → Begins two ts
begins_one true ts b = b
begins_one false ts b = inl b

-- where the machine is stuck behind a start, there is a fault from it on
goes_on_by : (scan : Scan) (text : List ℕ) (f : SyntaxFault) (s : Stuck scan firsts [] 0 text f) → (t : Token) × Begins true (s.before ++ t ∷ [])
goes_on_by = goes_on_from firsts (Begins true) begins_if runs_if

stops_in : (before : List Token) (shapes : List Shape) (deep : ℕ) (t : Token) → run firsts (at [] 0) before ≡ Some (at shapes deep) →
    step firsts (at shapes deep) t ≡ None → Begins true (before ++ t ∷ []) → ⊥
stops_in = stops_by firsts (Begins true) begins_if runs_if

faulty_here : (two : Bool) (scan : Scan) (text : List ℕ) (f : SyntaxFault) (s : Stuck scan firsts [] 0 text f)
    → ((t : Token) (rest : List ℕ) → front scan s.left ≡ Ok (t, rest) → step firsts (at s.shapes s.deep) t ≡ None → Begins two (s.before ++ t ∷ []) → ⊥)
    → IsAtFault (Begins two) s.before scan s.left f
faulty_here two = stuck_here firsts (Begins true) begins_if runs_if (Begins two) (begins_one two)

-- in PL 2
fault_behind : (text rest : List ℕ) (f : SyntaxFault) → Leads (scan_of false text) text header rest → Stuck (scan_of true text) firsts [] 0 rest f → HasFault text f
fault_behind text rest f leads s = record {
  two = true;
  before = s.before;
  left = s.left;
  reads = (rest, leads, s.reads);
  goes_on = goes_on_by (scan_of true text) rest f s;
  shallow = s.shallow;
  here = faulty_here true (scan_of true text) rest f s (λ t left here stops b. stops_in s.before s.shapes s.deep t s.runs stops b);
}

-- a text of PL 1 does not go on with a part of the header at which the machine stops
module _ (text : List ℕ) (f : SyntaxFault) (s : Stuck (scan_of false text) firsts [] 0 text f) where
  by_part : (before : List Token) (shapes : List Shape) (deep : ℕ) → Leads (scan_of false text) text before s.left → run firsts (at [] 0) before ≡ Some (at shapes deep)
      → (t : Token) (rest : List ℕ) → front (scan_of false text) s.left ≡ Ok (t, rest) → step firsts (at shapes deep) t ≡ None → IsOne text
      → (more : List Token) → (before ++ t ∷ []) ++ more ≡ header → ⊥
  by_part [] shapes deep leads runs t rest here stops begun more e =
      let first : t ≡ name (codes "pl") = cc in
      let empty : at [] 0 ≡ at shapes deep = cc in
      let goes : step firsts (at [] 0) (name (codes "pl")) ≡ None = subst (λ (x : Token). step firsts (at [] 0) x ≡ None) first (subst (λ (x : State). step firsts x t ≡ None) (sym empty) stops) in
      cc
  by_part (a ∷ []) shapes deep leads runs t rest here stops (no_pl x first other) more e =
      let same = ok_pair (a, leads.0) x (sym leads.1 ∙ first) in
      let pl : a ≡ name (codes "pl") = cc in
      let yes : is_pl x.0 ≡ true = ap is_pl (sym same.0 ∙ pl) in
      let q : true ≡ false = sym yes ∙ other in
      cc
  by_part (a ∷ []) shapes deep leads runs t rest here stops (no_two x y first second other) more e =
      let same = ok_pair (a, leads.0) x (sym leads.1 ∙ first) in
      let at_second : front (scan_of false text) x.1 ≡ Ok (t, rest) =
      ap (front (scan_of false text)) (sym same.1 ∙ leads.2) ∙ here in
      let two : t ≡ number 2 = cc in
      let is : y.0 ≡ t = (ok_pair y (t, rest) (sym second ∙ at_second)).0 in
      let yes : is_two y.0 ≡ true = ap is_two (is ∙ two) in
      let q : true ≡ false = sym yes ∙ other in
      cc
  by_part (a ∷ b ∷ before) shapes deep leads runs t rest here stops begun more e =
      let first : a ≡ name (codes "pl") = cc in
      let second : b ≡ number 2 = cc in
      let stuck : run firsts (at [] 0) (name (codes "pl") ∷ number 2 ∷ before) ≡ Some (at shapes deep) =
      subst (λ (x : Token). run firsts (at [] 0) (x ∷ number 2 ∷ before) ≡ Some (at shapes deep)) first
      (subst (λ (x : Token). run firsts (at [] 0) (a ∷ x ∷ before) ≡ Some (at shapes deep)) second runs) in
      cc

  -- in PL 1
  fault_before : IsOne text → HasFault text f
  fault_before begun = record {
    two = false;
    before = s.before;
    left = s.left;
    reads = s.reads;
    goes_on = (let g = goes_on_by (scan_of false text) text f s in (g.0, inl g.1));
    shallow = s.shallow;
    here = faulty_here false (scan_of false text) text f s (λ t left here stops b. elim b [
      | inl p ↦ stops_in s.before s.shapes s.deep t s.runs stops p
      | inr p ↦ by_part s.before s.shapes s.deep s.reads s.runs t left here stops begun p.0 p.1
    ]);
  }

-- ---- whole texts

program_of : (text : List ℕ) (z : Bool × List ℕ) (body : Tree) → Begun text z → ReadBody (scan_of z.0 text) z.1 body → IsText text (record { two = z.0; body = body })
program_of text z body (inl one) b =
    subst (λ (v : Bool × List ℕ). IsText text (record { two = v.0; body = body })) (sym one.0)
    (let c : ReadBody (scan_of false text) text body = subst (λ (v : Bool × List ℕ). ReadBody (scan_of v.0 text) v.1 body) one.0 b in
    record { reads = c.reads; shallow = c.shallow })
program_of text z body (inr two) b =
    subst (λ (v : Bool). IsText text (record { two = v; body = body })) (sym two.0)
    (let c : ReadBody (scan_of true text) z.1 body = subst (λ (v : Bool). ReadBody (scan_of v text) z.1 body) two.0 b in
    record { reads = (z.1, two.1, c.reads); shallow = c.shallow })

pub program_ok : (text : List ℕ) (p : Program) → program_at text ≡ Ok p → IsText text p
unfolding program_at
program_ok text p e =
    let h = bind_ok (header_at (scan_of false text) text) _ p e in
    let b = bind_ok (stmts_at (scan_of h.0.0 text) h.0.1) _ p h.2 in
    subst (λ (q : Program). IsText text q) (ok_is (record { two = h.0.0; body = tree_of b.0 }) p b.2)
    (program_of text h.0 (tree_of b.0) (header_ok text h.0 h.1) (stmts_ok (scan_of h.0.0 text) h.0.1 b.0 b.1))

fault_of_body : (text : List ℕ) (z : Bool × List ℕ) (f : SyntaxFault) → Begun text z → Stuck (scan_of z.0 text) firsts [] 0 z.1 f → HasFault text f
fault_of_body text z f (inl one) s =
    fault_before text f (subst (λ (v : Bool × List ℕ). Stuck (scan_of v.0 text) firsts [] 0 v.1 f) one.0 s) one.1
fault_of_body text z f (inr two) s =
    fault_behind text z.1 f two.1 (subst (λ (v : Bool). Stuck (scan_of v text) firsts [] 0 z.1 f) two.0 s)

-- ---- a fault in the header

module _ (text : List ℕ) (f : SyntaxFault) where
  -- no text begins with `pl 2` and another token than `;`
  no_other : (t : Token) → fits (a_sign Semicolon) t ≡ false → Begins false (name (codes "pl") ∷ number 2 ∷ t ∷ []) → ⊥
  no_other t misses (inl b) =
      let r = runs_if (name (codes "pl") ∷ number 2 ∷ t ∷ []) b in
      let none : None ≡ Some r.0 = r.1 in
      cc
  no_other t misses (inr b) =
      let is : t ≡ sign Semicolon = (let e = b.1 in cc) in
      let fit : fits (a_sign Semicolon) t ≡ true = ap (fits (a_sign Semicolon)) is in
      let q : true ≡ false = sym fit ∙ misses in
      cc

  at_first : front (scan_of false text) text ≡ Err f → HasFault text f
  at_first e = record {
    two = false;
    before = [];
    left = text;
    reads = refl;
    goes_on = (name (codes "pl"), inr (number 2 ∷ sign Semicolon ∷ [], refl));
    shallow = omega arith;
    here = no_token (record { here = e });
  }

  at_second : (x : Token × List ℕ) → front (scan_of false text) text ≡ Ok x → is_pl x.0 ≡ true → front (scan_of false text) x.1 ≡ Err f → HasFault text f
  at_second x first pl e = record {
    two = false;
    before = name (codes "pl") ∷ [];
    left = x.1;
    reads = (x.1, first ∙ ap (λ (t : Token). Ok (t, x.1)) (pl_is x.0 pl), refl);
    goes_on = (number 2, inr (sign Semicolon ∷ [], refl));
    shallow = (omega arith, omega arith);
    here = no_token (record { here = e });
  }

  at_third : (x y : Token × List ℕ) → front (scan_of false text) text ≡ Ok x → is_pl x.0 ≡ true → front (scan_of false text) x.1 ≡ Ok y → is_two y.0 ≡ true
      → IsAtFault (Begins false) (name (codes "pl") ∷ number 2 ∷ []) (scan_of false text) y.1 f → HasFault text f
  at_third x y first pl second two here = record {
    two = false;
    before = name (codes "pl") ∷ number 2 ∷ [];
    left = y.1;
    reads = (x.1, first ∙ ap (λ (t : Token). Ok (t, x.1)) (pl_is x.0 pl), (y.1, second ∙ ap (λ (t : Token). Ok (t, y.1)) (two_is y.0 two), refl));
    goes_on = (sign Semicolon, inr ([], refl));
    shallow = (omega arith, (omega arith, omega arith));
    here = here;
  }

  at_semicolon : (left : List ℕ) → sign_at (scan_of false text) Semicolon left ≡ Err f → IsAtFault (Begins false) (name (codes "pl") ∷ number 2 ∷ []) (scan_of false text) left f
  unfolding sign_at
  at_semicolon left e =
      elim (bind_err (front (scan_of false text) left) (λ x. sign_in (scan_of false text) Semicolon left x.0 x.1) f e) [
        | inl p ↦ no_token (record { here = p })
        | inr b ↦
            let p = sign_fault (scan_of false text) Semicolon left b.0.0 b.0.1 f b.1 e in
            cannot_stand (record { token = b.0.0; rest = b.0.1; here = b.1; stands_not = no_other b.0.0 p.0; fault_is = p.1 })
      ]

  header_err : header_at (scan_of false text) text ≡ Err f → HasFault text f
  unfolding header_at
  header_err e =
      elim (bind_err (front (scan_of false text) text) (λ first. behind_pl (scan_of false text) text first) f e) [
        | inl p ↦ at_first p
        | inr x ↦ elim (chosen (is_pl x.0.0) (front (scan_of false text) x.0.1 >>= λ second. behind_two (scan_of false text) text second) (Ok (false, text)) (Err f) x.2) [
          | inr p ↦ absurd (let q = p.1 in cc)
          | inl p ↦ elim (bind_err (front (scan_of false text) x.0.1) (λ second. behind_two (scan_of false text) text second) f p.1) [
            | inl q ↦ at_second x.0 x.1 p.0 q
            | inr y ↦ elim (chosen (is_two y.0.0) (sign_at (scan_of false text) Semicolon y.0.1 >>= λ rest. Ok (true, rest)) (Ok (false, text)) (Err f) y.2) [
              | inr q ↦ absurd (let r = q.1 in cc)
              | inl q ↦ elim (bind_err (sign_at (scan_of false text) Semicolon y.0.1) _ f q.1) [
                | inl r ↦ at_third x.0 y.0 x.1 p.0 y.1 q.0 (at_semicolon y.0.1 r)
                | inr r ↦ absurd (let z = r.2 in cc)
              ]
            ]
          ]
        ]
      ]

pub program_err : (text : List ℕ) (f : SyntaxFault) → program_at text ≡ Err f → HasFault text f
unfolding program_at
program_err text f e =
    elim (bind_err (header_at (scan_of false text) text) _ f e) [
      | inl p ↦ header_err text f p
      | inr h ↦ elim (bind_err (stmts_at (scan_of h.0.0 text) h.0.1) _ f h.2) [
        | inl p ↦ fault_of_body text h.0 f (header_ok text h.0 h.1) (stmts_err (scan_of h.0.0 text) h.0.1 f p)
        | inr b ↦ absurd (let q = b.2 in cc)
      ]
    ]
