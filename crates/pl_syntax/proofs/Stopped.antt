-- Where the machine of a grammar is stuck, the text has its first fault.
use Rattle.std.proofs.Common.{◌≡◌, ℕ, List, [], ◌∷◌, ◌++◌, Some, None, Ok, refl, sym, ◌∙◌, inl, inr}
use Rattle.pl_syntax.specs.declared.scan.Scan.{Scan}
use Rattle.pl_syntax.specs.declared.token.Sign.TheVariants.{OpenBrace}
use Rattle.pl_syntax.specs.declared.fault.SyntaxFault.{SyntaxFault}
use Rattle.pl_syntax.specs.Tokens.{Token, sign, front}
use Rattle.pl_syntax.specs.Grammar.{IsAtFault, IsFirstSyntaxFault, no_token, cannot_stand, too_deep}
use Rattle.pl_syntax.proofs.Machine.{Firsts, Shape, State, at, over, step, run, run-append, comes_to_end, some_front, depth_is}
use Rattle.pl_syntax.proofs.Leaves.{Stuck}

-- a grammar whose texts begin with tokens exactly while the machine goes on
module _
    (g : Firsts) (Starts : List Token → Type 0) (begins : (ts : List Token) (st : State) → run g (at [] 0) ts ≡ Some st → Starts ts)
    (runs_if : (ts : List Token) → Starts ts → (st : State) × (run g (at [] 0) ts ≡ Some st)) where
  goes_by : (before : List Token) (shapes : List Shape) (deep : ℕ) (t : Token) (next : State) → run g (at [] 0) before ≡ Some (at shapes deep) →
      step g (at shapes deep) t ≡ Some next → Starts (before ++ t ∷ [])
  goes_by before shapes deep t next runs steps =
      begins (before ++ t ∷ []) next (run-append g (at [] 0) before (t ∷ []) ∙ rw (runs, steps) refl)

  pub stops_by : (before : List Token) (shapes : List Shape) (deep : ℕ) (t : Token) → run g (at [] 0) before ≡ Some (at shapes deep) →
      step g (at shapes deep) t ≡ None → Starts (before ++ t ∷ []) → ⊥
  stops_by before shapes deep t runs steps b =
      let r = runs_if (before ++ t ∷ []) b in
      let nothing : run g (at [] 0) (before ++ t ∷ []) ≡ None = run-append g (at [] 0) before (t ∷ []) ∙ rw (runs, steps) refl in
      let q : None ≡ Some r.0 = sym nothing ∙ r.1 in
      cc

  next_token : (before : List Token) (shapes : List Shape) (deep : ℕ) → run g (at [] 0) before ≡ Some (at shapes deep) → (more : List Token) →
      run g (at shapes deep) more ≡ Some over → (t : Token) × Starts (before ++ t ∷ [])
  next_token before shapes deep runs [] e = absurd cc
  next_token before shapes deep runs (t ∷ ts) e =
      let m = some_front (step g (at shapes deep) t) (λ next. run g next ts) over e in
      (t, goes_by before shapes deep t m.0 runs m.1)

  pub goes_on_from : (scan : Scan) (text : List ℕ) (f : SyntaxFault) (s : Stuck scan g [] 0 text f) → (t : Token) × Starts (s.before ++ t ∷ [])
  goes_on_from scan text f s = let more = comes_to_end g (at s.shapes s.deep) in next_token s.before s.shapes s.deep s.runs more.0 more.1

  -- where the machine is stuck behind a start, there is a fault from it on; other texts than those of the grammar may start too
  pub stuck_here : (Wide : List Token → Type 0) → ((ts : List Token) → Starts ts → Wide ts) → (scan : Scan) (text : List ℕ) (f : SyntaxFault) (s : Stuck scan g [] 0 text f)
      → ((t : Token) (rest : List ℕ) → front scan s.left ≡ Ok (t, rest) → step g (at s.shapes s.deep) t ≡ None → Wide (s.before ++ t ∷ []) → ⊥)
      → IsAtFault Wide s.before scan s.left f
  stuck_here Wide widen scan text f s stops = elim s.here [
    | inl e ↦ no_token (record { here = e })
    | inr (inl r) ↦ cannot_stand (record { token = r.token; rest = r.rest; here = r.here; stands_not = stops r.token r.rest r.here r.no_step; fault_is = r.fault_is })
    | inr (inr r) ↦ too_deep (record {
      rest = r.rest;
      here = r.here;
      stands = widen (s.before ++ sign OpenBrace ∷ []) (goes_by s.before s.shapes s.deep (sign OpenBrace) r.next s.runs r.steps);
      full = depth_is g s.before [] 0 s.shapes s.deep s.runs ∙ r.full;
      fault_is = r.fault_is;
    })
  ]

  pub first_fault : (scan : Scan) (text : List ℕ) (f : SyntaxFault) → Stuck scan g [] 0 text f → IsFirstSyntaxFault Starts scan text f
  first_fault scan text f s = record {
    before = s.before;
    left = s.left;
    reads = s.reads;
    goes_on = goes_on_from scan text f s;
    shallow = s.shallow;
    here = stuck_here Starts (λ ts h. h) scan text f s (λ t left here stops b. stops_by s.before s.shapes s.deep t s.runs stops b);
  }
