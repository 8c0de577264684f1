-- Whole loops stay whole where they are put together.
use Rattle.std.proofs.Common.{◌≡◌, ℕ, zero, suc, ◌≤◌, List, [], ◌∷◌, ◌++◌, length, ap, ◌∙◌, arith, append-nil}
use Rattle.armus_base.specs.declared.piece.Piece.{Piece}
use Rattle.armus_base.specs.declared.piece.Piece.TheVariants.{Op as Single, Repeat}
use Rattle.armus_base.specs.calls.Pieces.{AreNested, AreWhole, max_turns, unfolded}
use Rattle.armus_base.specs.Pieces.{times}
use Rattle.armus_base.proofs.Nesting.{nested_order, none_between}

-- ---- nested deeper

nested_deeper : (d e : ℕ) (ps : List Piece) (a b : ℕ) → d ≤ e → AreNested d ps a b → AreNested e ps a b
nested_deeper d e ps zero zero h n = tt
nested_deeper d e ps (suc a) zero h n = absurd n
nested_deeper d e [] zero (suc b) h n = absurd n
nested_deeper d e [] (suc a) (suc b) h n = absurd n
nested_deeper d e (piece ∷ ps) (suc a) (suc b) h n = nested_deeper d e ps a b h n
nested_deeper d e (Single o ∷ ps) zero (suc b) h n = nested_deeper d e ps zero b h n
nested_deeper zero e (Repeat k len ∷ ps) zero (suc b) h n = absurd n
nested_deeper (suc d) zero (Repeat k len ∷ ps) zero (suc b) h n = absurd (omega arith)
nested_deeper (suc d) (suc e) (Repeat k len ∷ ps) zero (suc b) h n =
    (n.0, nested_deeper d e ps zero len (omega arith) n.1, nested_deeper (suc d) (suc e) ps len b h n.2)

pub whole_deeper : (d e : ℕ) (ps : List Piece) → d ≤ e → AreWhole d ps → AreWhole e ps
whole_deeper d e ps h n = nested_deeper d e ps 0 (length ps) h n

-- ---- put together

-- with pieces behind
nested_in_front : (d : ℕ) (ps more : List Piece) (a b : ℕ) → AreNested d ps a b → AreNested d (ps ++ more) a b
nested_in_front d ps more zero zero n = tt
nested_in_front d ps more (suc a) zero n = absurd n
nested_in_front d [] more zero (suc b) n = absurd n
nested_in_front d [] more (suc a) (suc b) n = absurd n
nested_in_front d (piece ∷ ps) more (suc a) (suc b) n = nested_in_front d ps more a b n
nested_in_front d (Single o ∷ ps) more zero (suc b) n = nested_in_front d ps more zero b n
nested_in_front zero (Repeat k len ∷ ps) more zero (suc b) n = absurd n
nested_in_front (suc d) (Repeat k len ∷ ps) more zero (suc b) n =
    (n.0, nested_in_front d ps more zero len n.1, nested_in_front (suc d) ps more len b n.2)

-- with pieces in front
nested_behind : (d : ℕ) (ps more : List Piece) → AreWhole d more → AreNested d (ps ++ more) (length ps) (length (ps ++ more))
nested_behind d [] more n = n
nested_behind d (piece ∷ ps) more n = nested_behind d ps more n

-- up to a place, and from there on
nested_joined : (d : ℕ) (ps : List Piece) (a b c : ℕ) → AreNested d ps a b → AreNested d ps b c → AreNested d ps a c
nested_joined d ps zero zero c n m = m
nested_joined d ps (suc a) zero c n m = absurd n
nested_joined d ps a (suc b) zero n m = absurd m
nested_joined d [] zero (suc b) (suc c) n m = absurd n
nested_joined d [] (suc a) (suc b) (suc c) n m = absurd n
nested_joined d (piece ∷ ps) (suc a) (suc b) (suc c) n m = nested_joined d ps a b c n m
nested_joined d (Single o ∷ ps) zero (suc b) (suc c) n m = nested_joined d ps zero b c n m
nested_joined zero (Repeat k len ∷ ps) zero (suc b) (suc c) n m = absurd n
nested_joined (suc d) (Repeat k len ∷ ps) zero (suc b) (suc c) n m =
    let order = nested_order (suc d) ps b c m in
    (record { turns = n.0.turns; few = n.0.few; pieces = n.0.pieces; within = omega (arith, n.0.within) }, n.1, nested_joined (suc d) ps len b c n.2 m)

pub whole-append : (d : ℕ) (ps more : List Piece) → AreWhole d ps → AreWhole d more → AreWhole d (ps ++ more)
whole-append d ps more n m =
    nested_joined d (ps ++ more) 0 (length ps) (length (ps ++ more)) (nested_in_front d ps more 0 (length ps) n) (nested_behind d ps more m)

-- ---- a loop round them

nested_end : (d : ℕ) (ps : List Piece) → AreNested d ps (length ps) (length ps)
nested_end d [] = tt
nested_end d (piece ∷ ps) = nested_end d ps

pub whole_loop : (d k : ℕ) (body : List Piece) → 1 ≤ k → k ≤ max_turns → 1 ≤ length body → AreWhole d body → AreWhole (suc d) (Repeat k (length body) ∷ body)
whole_loop d k body some few pieces n =
    (record { turns = some; few = few; pieces = pieces; within = omega arith }, n, nested_end (suc d) body)

pub unfolded_loop : (k : ℕ) (body : List Piece) → unfolded (Repeat k (length body) ∷ body) ≡ times k (unfolded body)
unfolded_loop k body = ap (λ os. times k (unfolded body) ++ os) (none_between body (length body)) ∙ append-nil (times k (unfolded body))
