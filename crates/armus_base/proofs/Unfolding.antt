-- What pieces stand for, and the laws of it.
use Rattle.std.proofs.Common.{◌≡◌, ℕ, zero, suc, ◌≤◌, List, [], ◌∷◌, ◌++◌, length, refl, sym, ap, ap₂, subst, ◌∙◌, arith, append_assoc, append-nil}
use Rattle.armus_base.specs.declared.op.Op.{Op}
use Rattle.armus_base.specs.declared.piece.Piece.{Piece}
use Rattle.armus_base.specs.declared.piece.Piece.TheVariants.{Op as Single, Repeat}
use Rattle.armus_base.specs.Limits.{max_ops}
use Rattle.armus_base.specs.calls.Pieces.{AreNested, AreWhole, IsFolded, StandFor, nothing, max_open_repeats, op, repeat, ops_between, unfolded}
use Rattle.armus_base.specs.Pieces.{straight, times}

-- ---- the pieces themselves

-- the pieces from place a up to place b
abbrev pieces_between : List Piece → ℕ → ℕ → List Piece
pieces_between [] a b = []
pieces_between (piece ∷ ps) a zero = []
pieces_between (piece ∷ ps) (suc a) (suc b) = pieces_between ps a b
pieces_between (piece ∷ ps) zero (suc b) = piece ∷ pieces_between ps zero b

pieces_between_all : (ps : List Piece) → pieces_between ps 0 (length ps) ≡ ps
pieces_between_all [] = refl
pieces_between_all (piece ∷ ps) = ap (λ qs. piece ∷ qs) (pieces_between_all ps)

-- cut in two
pieces_between-cut : (ps : List Piece) (a b : ℕ) → a ≤ b → pieces_between ps 0 b ≡ pieces_between ps 0 a ++ pieces_between ps a b
pieces_between-cut [] a b h = refl
pieces_between-cut (piece ∷ ps) zero b h = refl
pieces_between-cut (piece ∷ ps) (suc a) zero h = absurd (omega arith)
pieces_between-cut (piece ∷ ps) (suc a) (suc b) h = ap (λ qs. piece ∷ qs) (pieces_between-cut ps a b (omega arith))

length-pieces_between : (ps : List Piece) (b : ℕ) → b ≤ length ps → length (pieces_between ps 0 b) ≡ b
length-pieces_between [] zero h = refl
length-pieces_between [] (suc b) h = absurd (omega arith)
length-pieces_between (piece ∷ ps) zero h = refl
length-pieces_between (piece ∷ ps) (suc b) h = ap suc (length-pieces_between ps b (omega arith))

-- ---- folded pieces stand for their ops

-- nested pieces are there
pub nested_within : (d : ℕ) (ps : List Piece) (a b : ℕ) → AreNested d ps a b → b ≤ length ps
nested_within d ps zero zero n = omega arith
nested_within d ps (suc a) zero n = absurd n
nested_within d [] zero (suc b) n = absurd n
nested_within d [] (suc a) (suc b) n = absurd n
nested_within d (piece ∷ ps) (suc a) (suc b) n = let h = nested_within d ps a b n in omega arith
nested_within d (Single o ∷ ps) zero (suc b) n = let h = nested_within d ps zero b n in omega arith
nested_within zero (Repeat k len ∷ ps) zero (suc b) n = absurd n
nested_within (suc d) (Repeat k len ∷ ps) zero (suc b) n = let h = nested_within (suc d) ps len b n.2 in omega arith

-- a Repeat with its pieces, and the pieces behind it
stand_for_loop : (k len b : ℕ) (ps : List Piece) (once os : List Op) → len ≤ b → len ≤ length ps →
    StandFor (pieces_between ps 0 len) once → StandFor (pieces_between ps len b) os →
    StandFor (Repeat k len ∷ pieces_between ps 0 b) (times k once ++ os)
stand_for_loop k len b ps once os before there body behind =
    subst (λ qs. StandFor (Repeat k len ∷ qs) (times k once ++ os)) (sym (pieces_between-cut ps len b before))
    (subst (λ n. StandFor (Repeat k n ∷ (pieces_between ps 0 len ++ pieces_between ps len b)) (times k once ++ os)) (length-pieces_between ps len there)
    (repeat k (pieces_between ps 0 len) (pieces_between ps len b) once os body behind))

stand_for_between : (d : ℕ) (ps : List Piece) (a b : ℕ) → AreNested d ps a b → StandFor (pieces_between ps a b) (ops_between ps a b)
stand_for_between d [] zero zero n = nothing
stand_for_between d (piece ∷ ps) zero zero n = nothing
stand_for_between d ps (suc a) zero n = absurd n
stand_for_between d [] zero (suc b) n = absurd n
stand_for_between d [] (suc a) (suc b) n = absurd n
stand_for_between d (piece ∷ ps) (suc a) (suc b) n = stand_for_between d ps a b n
stand_for_between d (Single o ∷ ps) zero (suc b) n = op o _ _ (stand_for_between d ps zero b n)
stand_for_between zero (Repeat k len ∷ ps) zero (suc b) n = absurd n
stand_for_between (suc d) (Repeat k len ∷ ps) zero (suc b) n =
    stand_for_loop k len b ps _ _ n.0.within (nested_within d ps zero len n.1) (stand_for_between d ps zero len n.1) (stand_for_between (suc d) ps len b n.2)

pub nested_stand_for : (d : ℕ) (ps : List Piece) → AreWhole d ps → StandFor ps (unfolded ps)
nested_stand_for d ps n = subst (λ qs. StandFor qs (unfolded ps)) (pieces_between_all ps) (stand_for_between d ps 0 (length ps) n)

pub folded_stand_for_unfolded : (ps : List Piece) → IsFolded ps → StandFor ps (unfolded ps)
folded_stand_for_unfolded ps folded = nested_stand_for max_open_repeats ps folded.whole

-- ---- and for nothing else

-- up to the first piece there is nothing
pub none_before : (ps : List Piece) (a : ℕ) → ops_between ps a 0 ≡ []
none_before [] a = refl
none_before (piece ∷ ps) a = refl

-- pieces behind others are unfolded as if they stood alone
ops_behind : (ps qs more : List Piece) → ops_between ((ps ++ qs) ++ more) (length ps) (length (ps ++ qs)) ≡ ops_between (qs ++ more) 0 (length qs)
ops_behind [] qs more = refl
ops_behind (piece ∷ ps) qs more = ops_behind ps qs more

unfolded_behind : (ps more : List Piece) → ops_between (ps ++ more) (length ps) (length (ps ++ more)) ≡ unfolded more
unfolded_behind [] more = refl
unfolded_behind (piece ∷ ps) more = unfolded_behind ps more

-- pieces that stand for ops are unfolded to them, whatever is behind
ops_in_front : {ps : List Piece} {os : List Op} → StandFor ps os → (more : List Piece) → ops_between (ps ++ more) 0 (length ps) ≡ os
ops_in_front nothing more = none_before more 0
ops_in_front (op o ps os s) more = ap (λ xs. o ∷ xs) (ops_in_front s more)
ops_in_front (repeat k body ps once os s t) more =
    ap₂ (λ xs ys. times k xs ++ ys)
    (ap (λ qs. ops_between qs 0 (length body)) (append_assoc body ps more) ∙ ops_in_front s (ps ++ more))
    (ops_behind body ps more ∙ ops_in_front t more)

pub stand_for_alone : {ps : List Piece} {os : List Op} → StandFor ps os → os ≡ unfolded ps
stand_for_alone {ps} {os} s = sym (sym (ap (λ qs. ops_between qs 0 (length ps)) (append-nil ps)) ∙ ops_in_front s [])

pub stand_for_unfolded_alone : (ps : List Piece) (os : List Op) → StandFor ps os → os ≡ unfolded ps
stand_for_unfolded_alone ps os s = stand_for_alone s

-- ---- put together

unfolded_appended : {ps : List Piece} {os : List Op} → StandFor ps os → (more : List Piece) → unfolded (ps ++ more) ≡ os ++ unfolded more
unfolded_appended nothing more = refl
unfolded_appended (op o ps os s) more = ap (λ xs. o ∷ xs) (unfolded_appended s more)
unfolded_appended (repeat k body ps once os s t) more =
    ap₂ (λ xs ys. times k xs ++ ys)
    (ap (λ qs. ops_between qs 0 (length body)) (append_assoc body ps more) ∙ ops_in_front s (ps ++ more))
    (ap (λ qs. ops_between qs (length body) (length qs)) (append_assoc body ps more) ∙ unfolded_behind body (ps ++ more) ∙ unfolded_appended t more)
    ∙ sym (append_assoc (times k once) os (unfolded more))

pub unfolded-append : (d : ℕ) (ps more : List Piece) → AreWhole d ps → unfolded (ps ++ more) ≡ unfolded ps ++ unfolded more
unfolded-append d ps more n = unfolded_appended (nested_stand_for d ps n) more

-- ---- one piece for each op

pub unfolded-straight : (ops : List Op) → unfolded (straight ops) ≡ ops
unfolded-straight [] = refl
unfolded-straight (o ∷ ops) = ap (λ xs. o ∷ xs) (unfolded-straight ops)

pub straight_whole : (d : ℕ) (ops : List Op) → AreWhole d (straight ops)
straight_whole d [] = tt
straight_whole d (o ∷ ops) = straight_whole d ops

pub straight_is_folded : (ops : List Op) → length ops ≤ max_ops → IsFolded (straight ops)
straight_is_folded ops few = record {
  whole = straight_whole max_open_repeats ops;
  few = subst (λ os. length os ≤ max_ops) (sym (unfolded-straight ops)) few;
}
