-- A test that tells of given pieces that they are folded.
use Rattle.std.proofs.Common.{◌≡◌, ℕ, zero, suc, Bool, true, false, List, [], ◌∷◌, length, leb-true}
use Rattle.std.specs.Prelude.{◌&&◌, nat_le}
use Rattle.std.proofs.lemmas.Bool.{false≢true, and_parts}
use Rattle.armus_base.specs.Limits.{max_ops}
use Rattle.armus_base.specs.declared.piece.Piece.{Piece}
use Rattle.armus_base.specs.declared.piece.Piece.TheVariants.{Op as Single, Repeat}
use Rattle.armus_base.specs.calls.Pieces.{AreNested, IsFolded, IsLoop, max_open_repeats, max_turns, unfolded}

abbrev is_loop : ℕ → ℕ → ℕ → Bool
is_loop k len b = (nat_le 1 k && nat_le k max_turns) && (nat_le 1 len && nat_le len b)

loop_is : (k len b : ℕ) → is_loop k len b ≡ true → IsLoop k len b
loop_is k len b e =
    let h = and_parts (nat_le 1 k && nat_le k max_turns) (nat_le 1 len && nat_le len b) e in
    let turns = and_parts (nat_le 1 k) (nat_le k max_turns) h.0 in
    let pieces = and_parts (nat_le 1 len) (nat_le len b) h.1 in
    record { turns = leb-true 1 k turns.0; few = leb-true k max_turns turns.1; pieces = leb-true 1 len pieces.0; within = leb-true len b pieces.1 }

abbrev are_nested : ℕ → List Piece → ℕ → ℕ → Bool
are_nested d ps zero zero = true
are_nested d ps (suc a) zero = false
are_nested d [] a (suc b) = false
are_nested d (piece ∷ ps) (suc a) (suc b) = are_nested d ps a b
are_nested d (Single o ∷ ps) zero (suc b) = are_nested d ps zero b
are_nested zero (Repeat k len ∷ ps) zero (suc b) = false
are_nested (suc d) (Repeat k len ∷ ps) zero (suc b) = is_loop k len b && (are_nested d ps zero len && are_nested (suc d) ps len b)

nested_is : (d : ℕ) (ps : List Piece) (a b : ℕ) → are_nested d ps a b ≡ true → AreNested d ps a b
nested_is d ps zero zero e = tt
nested_is d ps (suc a) zero e = absurd (false≢true e)
nested_is d [] zero (suc b) e = absurd (false≢true e)
nested_is d [] (suc a) (suc b) e = absurd (false≢true e)
nested_is d (piece ∷ ps) (suc a) (suc b) e = nested_is d ps a b e
nested_is d (Single o ∷ ps) zero (suc b) e = nested_is d ps zero b e
nested_is zero (Repeat k len ∷ ps) zero (suc b) e = absurd (false≢true e)
nested_is (suc d) (Repeat k len ∷ ps) zero (suc b) e =
    let h = and_parts (is_loop k len b) (are_nested d ps zero len && are_nested (suc d) ps len b) e in
    let g = and_parts (are_nested d ps zero len) (are_nested (suc d) ps len b) h.1 in
    (loop_is k len b h.0, nested_is d ps zero len g.0, nested_is (suc d) ps len b g.1)

abbrev pub is_folded : List Piece → Bool
is_folded ps = are_nested max_open_repeats ps 0 (length ps) && nat_le (length (unfolded ps)) max_ops

pub folded_by_test : (ps : List Piece) → is_folded ps ≡ true → IsFolded ps
folded_by_test ps e =
    let h = and_parts (are_nested max_open_repeats ps 0 (length ps)) (nat_le (length (unfolded ps)) max_ops) e in
    record { whole = nested_is max_open_repeats ps 0 (length ps) h.0; few = leb-true (length (unfolded ps)) max_ops h.1 }
