-- Reading the items of a list one after the other, as a loop does.
use Rattle.std.proofs.Common.{◌≡◌, ℕ, ◌+◌, ◌-◌, ◌<◌, ◌≤◌, Bool, true, false, List, [], ◌∷◌, ◌++◌, length, Result, Ok, Err, refl, sym, ap, ◌∙◌, append_assoc, add-one, arith}
use Rattle.std.proofs.lemmas.List.{append-nil}
use Rattle.pl_syntax.specs.declared.scan.Scan.{Scan}
use Rattle.pl_syntax.specs.declared.fault.SyntaxFault.{SyntaxFault}
use Rattle.pl_syntax.specs.declared.fault.ParseEnd.{ParseEnd}
use Rattle.pl_syntax.specs.declared.fault.ParseEnd.TheVariants as ends
use Rattle.pl_syntax.specs.Tokens.{Token, front}
use Rattle.pl_syntax.specs.inside.Reading.{◌>>=◌, Fails, BlockOf, listed_by}

module _
    (S : Type 0) (closes : Token → Bool) (by_one : BlockOf S → Scan → ℕ → Token → List ℕ → List ℕ → Result (S × List ℕ) SyntaxFault) where
  abbrev Read : Type 0
  Read = Result (List S × List ℕ) SyntaxFault

  -- what was read before, and what is still read
  abbrev pub with_front : List S → Result (List S × List ℕ) SyntaxFault → Result (List S × List ℕ) SyntaxFault
  with_front before read = read >>= λ x. Ok (before ++ x.0, x.1)

  -- The items before, and those that are left, are all. Any number of turns that is enough for all leaves one that is enough for the rest.
  pub record Turn (before : List S) (scan : Scan) (depth : ℕ) (rest text : List ℕ) : Type 0 where
    pub within : length rest ≤ length text
    pub all : (n : ℕ) → length text < n → (m : ℕ) × (length rest ≤ m) × (with_front before (listed_by closes by_one (m + 1) scan depth rest) ≡ listed_by closes by_one n scan depth text)

  regroup : (before : List S) (s : S) (read : Read) → with_front before (read >>= λ x. Ok (s ∷ x.0, x.1)) ≡ with_front (before ++ s ∷ []) read
  regroup before s (Ok x) = ap (λ (ss : List S). Ok (ss, x.1)) (simp append_assoc)
  regroup before s (Err f) = refl

  no_front : (read : Read) → with_front [] read ≡ read
  no_front (Ok x) = refl
  no_front (Err f) = refl

  pub begins : (scan : Scan) (depth : ℕ) (text : List ℕ) → Turn [] scan depth text text
  begins scan depth text = record {
    within = omega arith;
    all = λ n h. (n - 1, omega arith, (let e : n - 1 + 1 ≡ n = omega arith in rw e (no_front (listed_by closes by_one n scan depth text))));
  }

  -- one statement on
  module _ (before : List S) (scan : Scan) (depth : ℕ) (rest text : List ℕ) (turn : Turn before scan depth rest text) where
    pub fails_front : (f : SyntaxFault) (n : ℕ) → length text < n → front scan rest ≡ Err f → listed_by closes by_one n scan depth text ≡ Err f
    unfolding listed_by
    fails_front f n h e =
        let t = turn.all n h in
        let one : with_front before (listed_by closes by_one (t.0 + 1) scan depth rest) ≡ Err f = rw (add-one, e) refl in
        sym t.2 ∙ one

    pub stops : (token : Token) (after : List ℕ) (n : ℕ) → length text < n → front scan rest ≡ Ok (token, after) → closes token ≡ true →
        listed_by closes by_one n scan depth text ≡ Ok (before, rest)
    unfolding listed_by
    stops token after n h e b =
        let t = turn.all n h in
        let one : with_front before (listed_by closes by_one (t.0 + 1) scan depth rest) ≡ Ok (before, rest) = rw (add-one, e, b) (ap (λ (ss : List S). Ok (ss, rest)) (append-nil before)) in
        sym t.2 ∙ one

    -- an item that fails whatever reads the others
    pub fails_at : (token : Token) (after : List ℕ) → front scan rest ≡ Ok (token, after) → closes token ≡ false → (e : ParseEnd) →
        ((m : ℕ) → Fails e (by_one (listed_by closes by_one m scan) scan depth token rest after)) → (n : ℕ) → length text < n →
        Fails e (listed_by closes by_one n scan depth text)
    unfolding listed_by
    fails_at token after here goes ends.NoMemory fails n h = tt
    fails_at token after here goes (ends.Syntax f) fails n h =
        let t = turn.all n h in
        let one : with_front before (listed_by closes by_one (t.0 + 1) scan depth rest) ≡ Err f = rw (add-one, here, goes, fails t.0) refl in
        sym t.2 ∙ one

    module _ (token : Token) (after : List ℕ) (here : front scan rest ≡ Ok (token, after)) (goes : closes token ≡ false) (shorter : length after < length rest) where
      pub fails_in : (e : ParseEnd) → ((m : ℕ) → length after < m → Fails e (by_one (listed_by closes by_one m scan) scan depth token rest after))
          → (n : ℕ) → length text < n → Fails e (listed_by closes by_one n scan depth text)
      unfolding listed_by
      fails_in ends.NoMemory fails n h = tt
      fails_in (ends.Syntax f) fails n h =
          let t = turn.all n h in
          let k : length after < t.0 = omega arith in
          let one : with_front before (listed_by closes by_one (t.0 + 1) scan depth rest) ≡ Err f = rw (add-one, here, goes, fails t.0 k) refl in
          sym t.2 ∙ one

      pub goes_on : (s : S) (left : List ℕ) → length left ≤ length after
          → ((m : ℕ) → length after < m → by_one (listed_by closes by_one m scan) scan depth token rest after ≡ Ok (s, left))
          → Turn (before ++ s ∷ []) scan depth left text
      unfolding listed_by
      goes_on s left le reads = record {
        within = (let w = turn.within in omega arith);
        all = λ n h.
            let t = turn.all n h in
            let k : length after < t.0 = omega arith in
            let one : with_front before (listed_by closes by_one (t.0 + 1) scan depth rest) ≡ with_front (before ++ s ∷ []) (listed_by closes by_one t.0 scan depth left) = rw
            (add-one, here, goes, reads t.0 k) (regroup before s (listed_by closes by_one t.0 scan depth left)) in
            let e : t.0 - 1 + 1 ≡ t.0 = omega arith in
            (t.0 - 1, omega arith, rw e (sym one ∙ t.2));
      }
