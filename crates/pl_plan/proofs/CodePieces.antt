-- The codes of a program's plan have pieces; each has one list of them, which is folded and unfolds to the code.
use Rattle.std.proofs.Common.{◌≡◌, ℕ, ◌≤◌, Bool, Option, Some, None, Ok, List, [], ◌++◌, length, get_or, refl, sym, ap, subst, ◌∙◌, arith, inl, inr}
use Rattle.std.specs.Prelude.{sum_by}
use Rattle.std.proofs.lemmas.Bool.{cases_lt}
use Rattle.std.proofs.lemmas.List.{get_or_past}
use Rattle.std.proofs.lemmas.List.Sums.{sum_by_more_le}
use Rattle.armus_base.specs.declared.op.Op.{Op}
use Rattle.armus_base.specs.declared.piece.Piece.{Piece}
use Rattle.armus_base.specs.Limits.{max_tasks, max_ops}
use Rattle.armus_base.specs.calls.Pieces.{IsFolded, max_open_repeats, unfolded}
use Rattle.armus_base.specs.Pieces.{straight}
use Rattle.armus_base.specs.Plans.{Plan}
use Rattle.pl_syntax.specs.declared.limits.TheConstants.{MAX_OPEN_BRACES}
use Rattle.pl_syntax.specs.declared.tree.Program.{Program}
use Rattle.pl_syntax.specs.calls.Printed.{TreeIsWritable}
use Rattle.pl_syntax.specs.Tree.{Tree, done, fork, height, loop, plain}
use Rattle.pl_syntax.proofs.Writable.{text_is_writable}
use Rattle.pl_plan.specs.Unfolding.{Start, UnfoldingState, code_pieces, opening_state, plan_of, unfold_tasks, with_pieces}
use Rattle.pl_plan.specs.calls.Folding.{HasBodyPieces, HasCodePieces, HasFewTurns, drops_of}
use Rattle.pl_plan.specs.calls.FoldingLaws.{LeftPiecesAreComputed, LeftPiecesUnfold, OneListLeft, OneListOfPieces, PiecesOfTexts, PiecesUnfoldToCode, SteadyLeavesFew}
use Rattle.pl_plan.specs.FoldedOps.{Folding, body_pieces}
use Rattle.pl_plan.proofs.Folds.{steady_few, UnfoldTo, leaves_computed, leaves_unfold, straight_unfolds, unfolds_append, unfolds_deeper}
use Rattle.pl_plan.proofs.TasksLeave.{IsOfParts, OfStart, end_has, end_until, start_at}
use Rattle.pl_plan.proofs.VisitsLeave.{bind_ok, code, ok_is}

-- ---- each code has pieces

abbrev Holds : Tree → Type 0
Holds body = Unit {0}

holds_of_parts : IsOfParts Holds
holds_of_parts = record { of_plain = λ x rest h. tt; of_fork = λ x body rest h. (tt, tt); of_loop = λ k body rest h. (tt, tt) }

pub code_has : (program : Program) (end : UnfoldingState) → unfold_tasks program.two max_tasks 0 (opening_state program.body) ≡ Ok end → (t : ℕ) →
    (ps : List Piece) × HasCodePieces program.two (start_at end t) (code end t) ps
code_has program end e t = end_has Holds holds_of_parts program.two end (end_until Holds holds_of_parts program.two program.body end tt e) t

-- ---- and one list of them

pub body_pieces_are : (two : Bool) (body : Tree) (ops : List Op) (ps : List Piece) → HasBodyPieces two body ops ps → ps ≡ body_pieces body ops
body_pieces_are two body ops ps h =
    h.pieces_are ∙ ap (λ (f : Folding). f.pieces ++ straight f.rest) (sym (leaves_computed h.leaves (drops_of h.left))) ∙ ap (body_pieces body) (sym h.code_is)

pub one_list : (two : Bool) (start : Option Start) (ops : List Op) (ps qs : List Piece) → HasCodePieces two start ops ps → HasCodePieces two start ops qs → ps ≡ qs
one_list two None ops ps qs a b = a.1 ∙ sym b.1
one_list two (Some start) ops ps qs a b = body_pieces_are two start.body ops ps a ∙ sym (body_pieces_are two start.body ops qs b)

-- which is computed from them
pub has_computed : (two : Bool) (start : Option Start) (ops : List Op) (ps : List Piece) → HasCodePieces two start ops ps →
    HasCodePieces two start ops (code_pieces start ops)
has_computed two None ops ps h = (h.0, refl)
has_computed two (Some start) ops ps h = subst (λ qs. HasCodePieces two (Some start) ops qs) (body_pieces_are two start.body ops ps h) h

pub one_list_of_pieces : OneListOfPieces
one_list_of_pieces program t ps qs a b =
    let same : a.end ≡ b.end = ok_is a.end b.end (sym a.unfolds ∙ b.unfolds) in
    let there = subst (λ s. HasCodePieces program.two (start_at s t) (code s t) ps) same a.pieces in
    one_list program.two (start_at b.end t) (code b.end t) ps qs there b.pieces

-- ---- it is folded

-- not too deep, and no loop of too many turns
abbrev IsSmall : Tree → Type 0
IsSmall body = (height body ≤ MAX_OPEN_BRACES) × HasFewTurns body

small_of_parts : IsOfParts IsSmall
small_of_parts = record {
  of_plain = λ x rest h. h;
  of_fork = λ x body rest h. ((omega (arith, h.0), h.1.0), (omega (arith, h.0), h.1.1));
  of_loop = λ k body rest h. ((omega (arith, h.0), h.1.1), (omega (arith, h.0), h.1.2));
}

folded_by : (ops : List Op) (ps : List Piece) → UnfoldTo max_open_repeats ops ps → length ops ≤ max_ops → IsFolded ps × (unfolded ps ≡ ops)
folded_by ops ps u few = (record { whole = u.whole; few = subst (λ os. length os ≤ max_ops) (sym u.same) few }, u.same)

body_unfolds : (two : Bool) (body : Tree) (ops : List Op) (ps : List Piece) → IsSmall body → HasBodyPieces two body ops ps → UnfoldTo max_open_repeats ops ps
body_unfolds two body ops ps small h =
    let d = height body in
    let u = unfolds_append d h.made (drops_of h.left) h.body_pieces (straight (drops_of h.left)) (leaves_unfold h.leaves small.1) (straight_unfolds d (drops_of h.left)) in
    let w = unfolds_deeper d max_open_repeats (h.made ++ drops_of h.left) (h.body_pieces ++ straight (drops_of h.left)) (omega (arith, small.0)) u in
    subst (λ os. UnfoldTo max_open_repeats os ps) (sym h.code_is) (subst (λ qs. UnfoldTo max_open_repeats (h.made ++ drops_of h.left) qs) (sym h.pieces_are) w)

code_unfolds : (two : Bool) (start : Option Start) (ops : List Op) (ps : List Piece) → OfStart IsSmall small_of_parts start → HasCodePieces two start ops ps →
    UnfoldTo max_open_repeats ops ps
code_unfolds two None ops ps small h =
    subst (λ os. UnfoldTo max_open_repeats os ps) (sym h.0) (subst (λ qs. UnfoldTo max_open_repeats [] qs) (sym h.1) (straight_unfolds max_open_repeats []))
code_unfolds two (Some start) ops ps small h = body_unfolds two start.body ops ps small h

code_fits : (codes : List (List Op)) (t : ℕ) → length (get_or codes t []) ≤ sum_by length codes
code_fits codes t = elim (cases_lt t (length codes)) [
  | inl l ↦ omega (arith, sum_by_more_le length codes t [] l)
  | inr l ↦ omega (arith, ap length (get_or_past codes t [] l))
]

-- at the end of an unfolding each code's pieces are folded and stand for it
pub code_folds : (program : Program) (end : UnfoldingState) → height program.body ≤ MAX_OPEN_BRACES → HasFewTurns program.body →
    unfold_tasks program.two max_tasks 0 (opening_state program.body) ≡ Ok end → (t : ℕ) (ps : List Piece) →
    HasCodePieces program.two (start_at end t) (code end t) ps → IsFolded ps × (unfolded ps ≡ code end t)
code_folds program end deep few e t ps has =
    let until = end_until IsSmall small_of_parts program.two program.body end (deep, few) e in
    let u = code_unfolds program.two (start_at end t) (code end t) ps (until.kept.bodies t) has in
    folded_by (code end t) ps u (omega (arith, code_fits end.plan.codes t, until.kept.few_ops))

-- as many starts as codes, and no more ops than there may be
pub end_fits : (program : Program) (end : UnfoldingState) → unfold_tasks program.two max_tasks 0 (opening_state program.body) ≡ Ok end →
    (length end.starts ≡ length end.plan.codes) × ((t : ℕ) → length (code end t) ≤ max_ops)
end_fits program end e =
    let until = end_until Holds holds_of_parts program.two program.body end tt e in
    (until.kept.starts ∙ sym until.kept.codes, λ t. omega (arith, code_fits end.plan.codes t, until.kept.few_ops))

pub pieces_unfold_to_code : PiecesUnfoldToCode
unfolding plan_of
pieces_unfold_to_code program plan deep few e t ps has =
    let b = bind_ok (unfold_tasks program.two max_tasks 0 (opening_state program.body)) (λ s. Ok (with_pieces s)) plan e in
    let same : has.end ≡ b.0 = ok_is has.end b.0 (sym has.unfolds ∙ b.1) in
    let codes : has.end.plan.codes ≡ plan.codes =
    ap (λ (s : UnfoldingState). s.plan.codes) same ∙ ap (λ (p : Plan). p.codes) (ok_is (with_pieces b.0) plan b.2) in
    let f = code_folds program has.end deep few has.unfolds t ps has.pieces in
    (f.0, f.1 ∙ ap (λ os. get_or os t []) codes)

-- ---- programs of texts

-- no number is above the greatest
pub writable_has_few_turns : (body : Tree) → TreeIsWritable body → HasFewTurns body
writable_has_few_turns done w = tt
writable_has_few_turns (plain x rest) w = writable_has_few_turns rest w.1
writable_has_few_turns (fork x body rest) w = (writable_has_few_turns body w.1, writable_has_few_turns rest w.2)
writable_has_few_turns (loop k body rest) w = (omega (arith, w.0), writable_has_few_turns body w.1, writable_has_few_turns rest w.2)

pub pieces_of_texts : PiecesOfTexts
pieces_of_texts text program plan is e =
    pieces_unfold_to_code program plan is.shallow (writable_has_few_turns program.body (text_is_writable text program is).tree) e

-- ---- a body alone

pub left_pieces_unfold : LeftPiecesUnfold
left_pieces_unfold body ops ps few leaves = let u = leaves_unfold leaves few in (u.whole, u.same)

pub one_list_left : OneListLeft
one_list_left body ops ps qs a b = ap (λ (f : Folding). f.pieces) (sym (leaves_computed a []) ∙ leaves_computed b [])

pub left_pieces_are_computed : LeftPiecesAreComputed
left_pieces_are_computed body ops behind ps leaves = leaves_computed leaves behind

pub steady_leaves_few : SteadyLeavesFew
steady_leaves_few body ops ps steady leaves = steady_few leaves steady
