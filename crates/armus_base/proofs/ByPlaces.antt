-- Whole loops, said place by place.
use Rattle.std.proofs.Common.{◌≡◌, ℕ, zero, suc, ◌+◌, ◌-◌, ◌<◌, ◌≤◌, ◌⊎◌, inl, inr, Some, List, [], ◌∷◌, length, refl, subst, arith, le-ltb, lt-ltb}
use Rattle.std.specs.Prelude.{slice_get}
use Rattle.std.proofs.lemmas.Bool.{cases_lt}
use Rattle.std.proofs.lemmas.Option.{slice_get_within}
use Rattle.armus_base.specs.declared.piece.Piece.{Piece}
use Rattle.armus_base.specs.declared.piece.Piece.TheVariants.{Op as Single, Repeat}
use Rattle.armus_base.specs.calls.Pieces.{AreNested, AreWhole, IsLoop}
use Rattle.armus_base.specs.calls.PieceLaws.{IsWholeByPlaces, WholeByPlaces, repeats_round}

by_cases : {X Y R : Type 0} → (X → R) → (Y → R) → X ⊎ Y → R
by_cases f g (inl x) = f x
by_cases f g (inr y) = g y

-- with more room behind
loop_wider : (k len a b : ℕ) → a ≤ b → IsLoop k len a → IsLoop k len b
loop_wider k len a b h l = record { turns = l.turns; few = l.few; pieces = l.pieces; within = omega (arith, l.within) }

-- ---- what nested pieces say of each place

-- nothing that is nested before a place stands round a piece behind it
none_reach : (d : ℕ) (ps : List Piece) (a b j : ℕ) → AreNested d ps a b → b ≤ j → repeats_round ps a j ≡ repeats_round ps b j
none_reach d ps zero zero j n h = refl
none_reach d ps (suc a) zero j n h = absurd n
none_reach d [] a (suc b) j n h = refl
none_reach d (piece ∷ ps) a (suc b) zero n h = absurd (omega arith)
none_reach d (piece ∷ ps) (suc a) (suc b) (suc j) n h = none_reach d ps a b j n (omega arith)
none_reach d (Single o ∷ ps) zero (suc b) (suc j) n h = none_reach d ps zero b j n (omega arith)
none_reach zero (Repeat k len ∷ ps) zero (suc b) (suc j) n h = absurd n
none_reach (suc d) (Repeat k len ∷ ps) zero (suc b) (suc j) n h =
    let past : len ≤ j = omega (arith, n.0.within) in
    rw (le-ltb j len past) (omega (arith, none_reach d ps zero len j n.1 past, none_reach (suc d) ps len b j n.2 (omega arith)))

-- a piece in the body of the first Repeat, or behind it
shallow_by : (d : ℕ) (ps : List Piece) (k len j : ℕ) → AreNested d ps zero len → (j < len → repeats_round ps zero j ≤ d) → (len ≤ j → repeats_round ps len j ≤ suc d) →
    (j < len) ⊎ (len ≤ j) → repeats_round (Repeat k len ∷ ps) zero (suc j) ≤ suc d
shallow_by d ps k len j n body behind (inl h) = let few = body h in rw (lt-ltb j len h) (omega arith)
shallow_by d ps k len j n body behind (inr h) = let few = behind h in rw (le-ltb j len h) (omega (arith, none_reach d ps zero len j n h))

nested_shallow : (d : ℕ) (ps : List Piece) (a b j : ℕ) → AreNested d ps a b → a ≤ j → j < b → repeats_round ps a j ≤ d
nested_shallow d ps a zero j n h g = absurd (omega arith)
nested_shallow d [] a (suc b) j n h g = omega arith
nested_shallow d (piece ∷ ps) a (suc b) zero n h g = omega arith
nested_shallow d (piece ∷ ps) (suc a) (suc b) (suc j) n h g = nested_shallow d ps a b j n (omega arith) (omega arith)
nested_shallow d (Single o ∷ ps) zero (suc b) (suc j) n h g = nested_shallow d ps zero b j n (omega arith) (omega arith)
nested_shallow zero (Repeat k len ∷ ps) zero (suc b) (suc j) n h g = absurd n
nested_shallow (suc d) (Repeat k len ∷ ps) zero (suc b) (suc j) n h g =
    shallow_by d ps k len j n.1 (λ l. nested_shallow d ps zero len j n.1 (omega arith) l) (λ l. nested_shallow (suc d) ps len b j n.2 l (omega arith)) (cases_lt j len)

-- a Repeat at place i has its pieces among the rest, which are r pieces
nested_loop : (d : ℕ) (ps : List Piece) (a b i k len r : ℕ) → AreNested d ps a b → slice_get ps i ≡ Some (Repeat k len) → a ≤ i → r + suc i ≡ b → IsLoop k len r
nested_loop d ps a zero i k len r n is h e = absurd (omega arith)
nested_loop d [] a (suc b) i k len r n is h e = absurd (cc)
nested_loop d (piece ∷ ps) (suc a) (suc b) zero k len r n is h e = absurd (omega arith)
nested_loop d (piece ∷ ps) (suc a) (suc b) (suc i) k len r n is h e = nested_loop d ps a b i k len r n is (omega arith) (omega arith)
nested_loop d (Single o ∷ ps) zero (suc b) zero k len r n is h e = absurd (cc)
nested_loop d (Single o ∷ ps) zero (suc b) (suc i) k len r n is h e = nested_loop d ps zero b i k len r n is (omega arith) (omega arith)
nested_loop zero (Repeat m l ∷ ps) zero (suc b) i k len r n is h e = absurd n
nested_loop (suc d) (Repeat m l ∷ ps) zero (suc b) zero k len r n is h e =
    let turns : m ≡ k = cc in let pieces : l ≡ len = cc in let rest : b ≡ r = omega arith in
    subst (λ x. IsLoop k len x) rest (subst (λ x. IsLoop k x b) pieces (subst (λ x. IsLoop x l b) turns n.0))
nested_loop (suc d) (Repeat m l ∷ ps) zero (suc b) (suc i) k len r n is h e =
    by_cases
    (λ inner. loop_wider k len (l - suc i) r (omega (arith, n.0.within)) (nested_loop d ps zero l i k len (l - suc i) n.1 is (omega arith) (omega arith)))
    (λ behind. nested_loop (suc d) ps l b i k len r n.2 is behind (omega arith))
    (cases_lt i l)

-- a Repeat among the pieces of another has its own pieces there
nested_inside : (d : ℕ) (ps : List Piece) (a b i j k m len n : ℕ) → AreNested d ps a b → slice_get ps i ≡ Some (Repeat k len) → slice_get ps j ≡ Some (Repeat m n) →
    a ≤ i → i < b → i < j → j ≤ i + len → j + n ≤ i + len
nested_inside d ps a zero i j k m len n w is js h g behind within = absurd (omega arith)
nested_inside d [] a (suc b) i j k m len n w is js h g behind within = absurd (cc)
nested_inside d (piece ∷ ps) a (suc b) i zero k m len n w is js h g behind within = absurd (omega arith)
nested_inside d (piece ∷ ps) (suc a) (suc b) zero (suc j) k m len n w is js h g behind within = absurd (omega arith)
nested_inside d (piece ∷ ps) (suc a) (suc b) (suc i) (suc j) k m len n w is js h g behind within =
    let there = nested_inside d ps a b i j k m len n w is js (omega arith) (omega arith) (omega arith) (omega arith) in omega arith
nested_inside d (Single o ∷ ps) zero (suc b) zero (suc j) k m len n w is js h g behind within = absurd (cc)
nested_inside d (Single o ∷ ps) zero (suc b) (suc i) (suc j) k m len n w is js h g behind within =
    let there = nested_inside d ps zero b i j k m len n w is js (omega arith) (omega arith) (omega arith) (omega arith) in omega arith
nested_inside zero (Repeat x l ∷ ps) zero (suc b) i j k m len n w is js h g behind within = absurd w
nested_inside (suc d) (Repeat x l ∷ ps) zero (suc b) zero (suc j) k m len n w is js h g behind within =
    let pieces : l ≡ len = cc in
    let inner = nested_loop d ps zero l j m n (l - suc j) w.1 js (omega arith) (omega arith) in
    omega (arith, inner.within)
nested_inside (suc d) (Repeat x l ∷ ps) zero (suc b) (suc i) (suc j) k m len n w is js h g behind within =
    by_cases
    (λ inner. let there = nested_inside d ps zero l i j k m len n w.1 is js (omega arith) inner (omega arith) (omega arith) in omega arith)
    (λ past. let there = nested_inside (suc d) ps l b i j k m len n w.2 is js past (omega arith) (omega arith) (omega arith) in omega arith)
    (cases_lt i l)

nested_by_places : (d : ℕ) (ps : List Piece) → AreWhole d ps → IsWholeByPlaces d ps
nested_by_places d ps w = record {
  loops = λ i k len is.
      let there : i < length ps = slice_get_within ps i (Repeat k len) is in
      nested_loop d ps 0 (length ps) i k len (length ps - (i + 1)) w is (omega arith) (omega arith);
  inside = λ i j k m len n is js behind within.
      nested_inside d ps 0 (length ps) i j k m len n w is js (omega arith) (slice_get_within ps i (Repeat k len) is) behind within;
  shallow = λ j there. nested_shallow d ps 0 (length ps) j w (omega arith) there;
}

-- ---- and pieces of which that holds are nested

-- the same of the pieces between two places
record ByPlaces (d : ℕ) (ps : List Piece) (a b : ℕ) : Type 0 where
  order : a ≤ b
  there : b ≤ length ps
  loops : (i k len r : ℕ) → slice_get ps i ≡ Some (Repeat k len) → a ≤ i → r + suc i ≡ b → IsLoop k len r
  inside : (i j k m len n : ℕ) → slice_get ps i ≡ Some (Repeat k len) → slice_get ps j ≡ Some (Repeat m n) → a ≤ i → i < b → i < j → j ≤ i + len →
      j + n ≤ i + len
  shallow : (j : ℕ) → a ≤ j → j < b → repeats_round ps a j ≤ d

by_places_nested : (d : ℕ) (ps : List Piece) (a b : ℕ) → ByPlaces d ps a b → AreNested d ps a b
by_places_nested d ps zero zero p = tt
by_places_nested d ps (suc a) zero p = absurd (omega (arith, p.order))
by_places_nested d [] a (suc b) p = absurd (omega (arith, p.there))
by_places_nested d (piece ∷ ps) (suc a) (suc b) p = by_places_nested d ps a b (record {
  order = omega (arith, p.order);
  there = omega (arith, p.there);
  loops = λ i k len r is h e. p.loops (suc i) k len r is (omega arith) (omega arith);
  inside = λ i j k m len n is js h g behind within.
      let there = p.inside (suc i) (suc j) k m len n is js (omega arith) (omega arith) (omega arith) (omega arith) in omega arith;
  shallow = λ j h g. p.shallow (suc j) (omega arith) (omega arith);
})
by_places_nested d (Single o ∷ ps) zero (suc b) p = by_places_nested d ps zero b (record {
  order = omega arith;
  there = omega (arith, p.there);
  loops = λ i k len r is h e. p.loops (suc i) k len r is (omega arith) (omega arith);
  inside = λ i j k m len n is js h g behind within.
      let there = p.inside (suc i) (suc j) k m len n is js (omega arith) (omega arith) (omega arith) (omega arith) in omega arith;
  shallow = λ j h g. p.shallow (suc j) (omega arith) (omega arith);
})
by_places_nested zero (Repeat k len ∷ ps) zero (suc b) p =
    let loop = p.loops 0 k len b refl (omega arith) (omega arith) in
    let first : zero < len = omega (arith, loop.pieces) in
    let round = rw (lt-ltb 0 len first) at (p.shallow 1 (omega arith) (omega (arith, loop.pieces, loop.within))) in
    absurd (omega arith)
by_places_nested (suc d) (Repeat k len ∷ ps) zero (suc b) p =
    let loop = p.loops 0 k len b refl (omega arith) (omega arith) in
    let body = by_places_nested d ps zero len (record {
      order = omega arith;
      there = omega (arith, p.there, loop.within);
      loops = λ i m n r is h e.
          let l = p.loops (suc i) m n (b - suc i) is (omega arith) (omega (arith, loop.within)) in
          let inner = p.inside 0 (suc i) k m len n refl is (omega arith) (omega arith) (omega arith) (omega arith) in
          record { turns = l.turns; few = l.few; pieces = l.pieces; within = omega arith };
      inside = λ i j x m l n is js h g behind within.
          let there = p.inside (suc i) (suc j) x m l n is js (omega arith) (omega (arith, loop.within)) (omega arith) (omega arith) in omega arith;
      shallow = λ j h g.
          let round = rw (lt-ltb j len g) at (p.shallow (suc j) (omega arith) (omega (arith, loop.within))) in omega arith;
    }) in (
      loop,
      body,
      by_places_nested (suc d) ps len b (record {
        order = loop.within;
        there = omega (arith, p.there);
        loops = λ i m n r is h e. p.loops (suc i) m n r is (omega arith) (omega arith);
        inside = λ i j x m l n is js h g behind within.
            let there = p.inside (suc i) (suc j) x m l n is js (omega arith) (omega arith) (omega arith) (omega arith) in omega arith;
        shallow = λ j h g.
            let round = rw (le-ltb j len h) at (p.shallow (suc j) (omega arith) (omega arith)) in
            omega (arith, none_reach d ps zero len j body h);
      }),
    )

whole_from_places : (d : ℕ) (ps : List Piece) → IsWholeByPlaces d ps → AreWhole d ps
whole_from_places d ps p = by_places_nested d ps 0 (length ps) (record {
  order = omega arith;
  there = omega arith;
  loops = λ i k len r is h e. let rest : length ps - (i + 1) ≡ r = omega arith in subst (λ x. IsLoop k len x) rest (p.loops i k len is);
  inside = λ i j k m len n is js h g behind within. p.inside i j k m len n is js behind within;
  shallow = λ j h g. p.shallow j g;
})

pub whole_by_places : WholeByPlaces
whole_by_places d ps = (nested_by_places d ps, whole_from_places d ps)
