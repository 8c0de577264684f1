-- The pieces that statements leave are whole loops and unfold to the ops of the statements; and `pieces_in` computes them, so there is one list of them.
use Rattle.std.proofs.Common.{◌≡◌, ℕ, zero, suc, ◌+◌, ◌-◌, ◌*◌, ◌≤◌, max, Bool, true, false, List, [], ◌∷◌, ◌++◌, length, drop, refl, ap}
use Rattle.std.proofs.Common.{ap₂, sym, ◌∙◌, arith, append_assoc, length-append, suc-mul}
use Rattle.std.proofs.lemmas.Bool.{false≢true, and_parts}
use Rattle.std.proofs.lemmas.List.{drop_at}
use Rattle.armus_base.specs.declared.op.Op.{Op}
use Rattle.armus_base.specs.declared.piece.Piece.{Piece}
use Rattle.armus_base.specs.declared.piece.Piece.TheVariants.{Op as Single, Repeat}
use Rattle.armus_base.specs.calls.Pieces.{AreWhole, max_turns, unfolded}
use Rattle.armus_base.specs.Pieces.{straight, times}
use Rattle.armus_base.proofs.Unfolding.{unfolded-append, unfolded-straight, straight_whole}
use Rattle.armus_base.proofs.WholeLoops.{unfolded_loop, whole-append, whole_deeper, whole_loop}
use Rattle.pl_syntax.specs.Tree.{Tree, count, height}
use Rattle.pl_plan.specs.FoldedOps.{Folding, folding, is_steady, is_steady_plain, loop_pieces, pieces_in, repeated, steady_pieces, then_on, turn_pieces}
use Rattle.pl_plan.specs.calls.Folding.{HasFewTurns, LeavesPieces, a_fork, a_turn, folded, no_op, no_piece, no_turn, nothing, op}

-- ---- the pieces are whole loops, and unfold to the ops

-- what holds of the pieces and the ops
pub record UnfoldTo (d : ℕ) (os : List Op) (ps : List Piece) : Type 0 where
  pub whole : AreWhole d ps
  pub same : unfolded ps ≡ os

unfolds_nothing : (d : ℕ) → UnfoldTo d [] []
unfolds_nothing d = record { whole = tt; same = refl }

unfolds_op : (d : ℕ) (o : Op) (os : List Op) (ps : List Piece) → UnfoldTo d os ps → UnfoldTo d (o ∷ os) (Single o ∷ ps)
unfolds_op d o os ps u = record { whole = u.whole; same = ap (λ xs. o ∷ xs) u.same }

pub unfolds_append : (d : ℕ) (os more : List Op) (ps qs : List Piece) → UnfoldTo d os ps → UnfoldTo d more qs → UnfoldTo d (os ++ more) (ps ++ qs)
unfolds_append d os more ps qs u v = record {
  whole = whole-append d ps qs u.whole v.whole;
  same = unfolded-append d ps qs u.whole ∙ ap₂ (λ xs ys. xs ++ ys) u.same v.same;
}

unfolds_loop : (d k : ℕ) (once : List Op) (body : List Piece) → 1 ≤ k → k ≤ max_turns → 1 ≤ length body → UnfoldTo d once body →
    UnfoldTo (suc d) (times k once) (Repeat k (length body) ∷ body)
unfolds_loop d k once body some few pieces u = record {
  whole = whole_loop d k body some few pieces u.whole;
  same = unfolded_loop k body ∙ ap (λ os. times k os) u.same;
}

pub unfolds_deeper : (d e : ℕ) (os : List Op) (ps : List Piece) → d ≤ e → UnfoldTo d os ps → UnfoldTo e os ps
unfolds_deeper d e os ps h u = record { whole = whole_deeper d e ps h u.whole; same = u.same }

pub leaves_unfold : {t : Tree} {os : List Op} {ps : List Piece} → LeavesPieces t os ps → HasFewTurns t → UnfoldTo (height t) os ps
leaves_unfold nothing few = unfolds_nothing 0
leaves_unfold (no_op s rest os ps e l) few = leaves_unfold l few
leaves_unfold (op s rest o os ps e l) few = unfolds_op (height rest) o os ps (leaves_unfold l few)
leaves_unfold (a_fork x body rest o os ps l) few =
    unfolds_op (max (height body + 1) (height rest)) o os ps
    (unfolds_deeper (height rest) (max (height body + 1) (height rest)) os ps (omega arith) (leaves_unfold l few.1))
leaves_unfold (folded k body rest once os bs ps e pieces l m) few =
    let d = max (height body + 1) (height rest) in
    unfolds_append d (times (suc k) once) os (Repeat (suc k) (length bs) ∷ bs) ps
    (unfolds_deeper (suc (height body)) d (times (suc k) once) (Repeat (suc k) (length bs) ∷ bs) (omega arith)
    (unfolds_loop (height body) (suc k) once bs (omega arith) few.0 pieces (leaves_unfold l few.1)))
    (unfolds_deeper (height rest) d os ps (omega arith) (leaves_unfold m few.2))
leaves_unfold (no_piece k body rest os ps e l m) few =
    unfolds_deeper (height rest) (max (height body + 1) (height rest)) os ps (omega arith) (leaves_unfold m few.2)
leaves_unfold (no_turn body rest os ps m) few =
    unfolds_deeper (height rest) (max (height body + 1) (height rest)) os ps (omega arith) (leaves_unfold m few.2)
leaves_unfold (a_turn k body rest once os ps qs e l m) few =
    let d = max (height body + 1) (height rest) in
    unfolds_append d once os ps qs (unfolds_deeper (height body) d once ps (omega arith) (leaves_unfold l few.1))
    (leaves_unfold m (omega (arith, few.0), few.1, few.2))

-- ---- a steady body leaves few pieces

pub steady_few : {t : Tree} {os : List Op} {ps : List Piece} → LeavesPieces t os ps → is_steady t ≡ true → length ps ≤ count t
steady_few nothing steady = omega arith
steady_few (no_op s rest os ps e l) steady = omega (arith, steady_few l (and_parts (is_steady_plain s) (is_steady rest) steady).1)
steady_few (op s rest o os ps e l) steady = omega (arith, steady_few l (and_parts (is_steady_plain s) (is_steady rest) steady).1)
steady_few (a_fork x body rest o os ps l) steady = absurd (false≢true steady)
steady_few (folded k body rest once os bs ps e pieces l m) steady =
    omega (arith, length-append bs ps, steady_few l e, steady_few m (and_parts (is_steady body) (is_steady rest) steady).1)
steady_few (no_piece k body rest os ps e l m) steady = omega (arith, steady_few m (and_parts (is_steady body) (is_steady rest) steady).1)
steady_few (no_turn body rest os ps m) steady = omega (arith, steady_few m (and_parts (is_steady body) (is_steady rest) steady).1)
steady_few (a_turn k body rest once os ps qs e l m) steady = absurd (false≢true (sym e ∙ (and_parts (is_steady body) (is_steady rest) steady).0))

-- ---- the function computes the relation

length-times : (k : ℕ) (once : List Op) → length (times k once) ≡ k * length once
length-times zero once = omega arith
length-times (suc k) once = simp length-append (omega (arith, length-times k once, suc-mul k (length once)))

-- the other turns are passed over
other_turns : (k : ℕ) (once os : List Op) → drop (k * (length (once ++ (times k once ++ os)) - length (times k once ++ os))) (times k once ++ os) ≡ os
other_turns k once os =
    let one : length (once ++ (times k once ++ os)) - length (times k once ++ os) ≡ length once = simp length-append (omega arith) in
    rw one (drop_at (times k once) os (k * length once) (length-times k once))

then_on_assoc : (a : Folding) (g h : List Op → Folding) → then_on (then_on a g) h ≡ then_on a (λ os. then_on (g os) h)
then_on_assoc a g h = ap (λ ps. folding ps (h (g a.rest).rest).rest) (append_assoc a.pieces (g a.rest).pieces (h (g a.rest).rest).pieces)

repeated_is : (k : ℕ) (once os : List Op) (bs : List Piece) → 1 ≤ length bs →
    repeated k (once ++ (times k once ++ os)) (folding bs (times k once ++ os)) ≡ folding (Repeat (suc k) (length bs) ∷ bs) os
repeated_is k once os [] some = absurd (omega arith)
repeated_is k once os (b ∷ bs) some = ap (λ r. folding (Repeat (suc k) (suc (length bs)) ∷ (b ∷ bs)) r) (other_turns k once os)

-- a steady loop of which a turn leaves pieces
steady_is : (f : List Op → Folding) (k : ℕ) (once os : List Op) (bs : List Piece) → 1 ≤ length bs →
    ((more : List Op) → f (once ++ more) ≡ folding bs more) →
    steady_pieces (suc k) f (times (suc k) once ++ os) ≡ folding (Repeat (suc k) (length bs) ∷ bs) os
steady_is f k once os bs some body =
    ap (λ xs. repeated k xs (f xs)) (append_assoc once (times k once) os) ∙ ap (repeated k (once ++ (times k once ++ os))) (body (times k once ++ os))
    ∙ repeated_is k once os bs some

-- one of which a turn leaves none
none_is : (f : List Op → Folding) (k : ℕ) (os : List Op) → f os ≡ folding [] os → steady_pieces k f os ≡ folding [] os
none_is f zero os e = refl
none_is f (suc k) os e = ap (repeated k os) e

-- no turn
no_turn_is : (steady : Bool) (f : List Op → Folding) (os : List Op) → loop_pieces steady zero f os ≡ folding [] os
no_turn_is true f os = refl
no_turn_is false f os = refl

-- a turn of another loop
turn_is : (f g : List Op → Folding) (k : ℕ) (once os more : List Op) (ps qs : List Piece) → f (once ++ (os ++ more)) ≡ folding ps (os ++ more) →
    then_on (turn_pieces k f (os ++ more)) g ≡ folding qs more → then_on (turn_pieces (suc k) f ((once ++ os) ++ more)) g ≡ folding (ps ++ qs) more
turn_is f g k once os more ps qs first others =
    ap (λ xs. then_on (then_on (f xs) (turn_pieces k f)) g) (append_assoc once os more)
    ∙ then_on_assoc (f (once ++ (os ++ more))) (turn_pieces k f) g
    ∙ ap (λ (a : Folding). then_on a (λ xs. then_on (turn_pieces k f xs) g)) first
    ∙ ap (λ (b : Folding). folding (ps ++ b.pieces) b.rest) others

pub leaves_computed : {t : Tree} {os : List Op} {ps : List Piece} → LeavesPieces t os ps → (more : List Op) → pieces_in t (os ++ more) ≡ folding ps more
leaves_computed nothing more = refl
leaves_computed (no_op s rest os ps e l) more = rw e (leaves_computed l more)
leaves_computed (op s rest o os ps e l) more = rw e (ap (λ (b : Folding). folding (Single o ∷ b.pieces) b.rest) (leaves_computed l more))
leaves_computed (a_fork x body rest o os ps l) more = ap (λ (b : Folding). folding (Single o ∷ b.pieces) b.rest) (leaves_computed l more)
leaves_computed (folded k body rest once os bs ps e pieces l m) more =
    rw e (ap (λ xs. then_on (steady_pieces (suc k) (pieces_in body) xs) (pieces_in rest)) (append_assoc (times (suc k) once) os more)
    ∙ ap (λ (a : Folding). then_on a (pieces_in rest)) (steady_is (pieces_in body) k once (os ++ more) bs pieces (leaves_computed l))
    ∙ ap (λ (b : Folding). folding (Repeat (suc k) (length bs) ∷ (bs ++ b.pieces)) b.rest) (leaves_computed m more))
leaves_computed (no_piece k body rest os ps e l m) more =
    rw e (ap (λ (a : Folding). then_on a (pieces_in rest)) (none_is (pieces_in body) k (os ++ more) (leaves_computed l (os ++ more))) ∙ leaves_computed m more)
leaves_computed (no_turn body rest os ps m) more =
    ap (λ (a : Folding). then_on a (pieces_in rest)) (no_turn_is (is_steady body) (pieces_in body) (os ++ more)) ∙ leaves_computed m more
leaves_computed (a_turn k body rest once os ps qs e l m) more =
    let others = rw e at (leaves_computed m more) in
    rw e (turn_is (pieces_in body) (pieces_in rest) k once os more ps qs (leaves_computed l (os ++ more)) others)

-- ---- Drops behind

pub straight_unfolds : (d : ℕ) (ops : List Op) → UnfoldTo d ops (straight ops)
straight_unfolds d ops = record { whole = straight_whole d ops; same = unfolded-straight ops }
