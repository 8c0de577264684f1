-- Pieces, worked out.
use Rattle.std.proofs.Common.{◌≡◌, ℕ, zero, suc, ◌*◌, ◌<◌, ◌≤◌, List, [], ◌∷◌, length, refl, ap, ◌∙◌, arith, length-append, subst}
use Rattle.std.proofs.Math.Nat.{suc-mul}
use Rattle.armus_base.specs.declared.op.Op.{Op}
use Rattle.armus_base.specs.declared.piece.Piece.{Piece}
use Rattle.armus_base.specs.declared.piece.Piece.TheVariants.{Op as Single, Repeat}
use Rattle.armus_base.specs.Limits.{max_ops}
use Rattle.armus_base.specs.calls.Pieces.{AreWhole, IsFolded, max_open_repeats, unfolded}
use Rattle.armus_base.specs.Pieces.{times}
use Rattle.armus_base.specs.calls.WorkedPieces.{AreFoldedTo, ExcludesPieces, advance, in_a_loop, in_a_loop_ops, looped_by, three_deep, three_deep_ops, wait}
use Rattle.armus_base.proofs.FoldedTests.{folded_by_test}
use Rattle.armus_base.proofs.WholeLoops.{unfolded_loop}

pub in_a_loop_is : AreFoldedTo in_a_loop in_a_loop_ops
in_a_loop_is = record { folded = folded_by_test in_a_loop refl; ops = refl }

pub three_deep_is : AreFoldedTo three_deep three_deep_ops
three_deep_is = record { folded = folded_by_test three_deep refl; ops = refl }

pub as_deep_as_may_be : AreFoldedTo (looped_by 64 (Single advance ∷ [])) (advance ∷ [])
as_deep_as_may_be = record { folded = folded_by_test (looped_by 64 (Single advance ∷ [])) refl; ops = refl }

-- each loop round pieces is one deeper
deep_enough : (d n : ℕ) (ps : List Piece) → AreWhole d (looped_by n ps) → n ≤ d
deep_enough d zero ps w = omega arith
deep_enough zero (suc n) ps w = absurd w
deep_enough (suc d) (suc n) ps w = let h = deep_enough d n ps w.1 in omega arith

length-times : (k : ℕ) (ops : List Op) → length (times k ops) ≡ k * length ops
length-times zero ops = omega arith
length-times (suc k) ops = simp length-append (omega (arith, length-times k ops, suc-mul k (length ops)))

-- a loop has as many ops as its body, in each turn
turns_fit : (k : ℕ) (body : List Piece) → IsFolded (Repeat k (length body) ∷ body) → k * length (unfolded body) ≤ max_ops
turns_fit k body folded = subst (λ n. n ≤ max_ops) (ap length (unfolded_loop k body) ∙ length-times k (unfolded body)) folded.few

too_many : (k : ℕ) → max_ops < k * 2 → IsFolded (Repeat k 2 ∷ Single advance ∷ Single wait ∷ []) → ⊥
too_many k many folded = absurd (let h = turns_fit k (Single advance ∷ Single wait ∷ []) folded in omega arith)

pub excludes_pieces : ExcludesPieces
excludes_pieces = record {
  no_turn = λ f. absurd (omega (arith, f.whole.0.turns));
  no_piece = λ f. absurd (omega (arith, f.whole.0.pieces));
  turn_too_many = λ f. absurd (omega (arith, f.whole.0.few));
  past_the_end = λ f. absurd (omega (arith, f.whole.0.within));
  past_the_outer = λ f. absurd (omega (arith, f.whole.1.0.within));
  too_deep = λ f. absurd (omega (arith, deep_enough max_open_repeats 65 (Single advance ∷ []) f.whole));
  ops_too_many = too_many;
}
