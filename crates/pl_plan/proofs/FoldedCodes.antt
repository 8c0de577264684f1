-- The codes of the tasks, folded one after the other.
use Rattle.std.proofs.Common.{◌≡◌, ℕ, suc, ◌<◌, ◌≤◌, Option, None, List, [], ◌∷◌, ◌++◌, length, get_or, arith, sym, ap, subst, ◌∙◌, append_assoc, length-append, append-nil}
use Rattle.std.proofs.Math.Seq.{get_or-append_seam}
use Rattle.std.proofs.lemmas.List.{get_or_default}
use Rattle.armus_base.specs.declared.op.Op.{Op}
use Rattle.armus_base.specs.declared.piece.Piece.{Piece}
use Rattle.armus_base.specs.Finals.{list_below}
use Rattle.armus_base.specs.Limits.{max_ops}
use Rattle.armus_base.specs.calls.Pieces.{IsFolded}
use Rattle.pl_plan.specs.declared.step.FlatStep.{FlatStep}
use Rattle.pl_plan.specs.Unfolding.{Start, code_pieces}
use Rattle.pl_plan.specs.inside.Checker.{CheckerStart}
use Rattle.pl_plan.specs.inside.FoldsSteps.{AreFolded, CanBeFolded, HasTreeAt, SpellStarts, SpellsStart, pieces_by}

-- the codes of the tasks whose lists are taken out
pub record CodesFolded (steps : List FlatStep) (kept : List (Option CheckerStart)) (lists yielded rest : List (List Op)) (codes : List (List Piece)) : Type 0 where
  pub all : lists ≡ yielded ++ rest
  pub many : length codes ≡ length yielded
  pub folded : (n : ℕ) (names : ℕ → List ℕ) (starts : List (Option Start)) → SpellStarts n names steps starts kept →
      codes ≡ list_below (pieces_by starts lists) (length codes)

pub codes_start : (steps : List FlatStep) (kept : List (Option CheckerStart)) (lists rest : List (List Op)) (codes : List (List Piece)) → rest ≡ lists → codes ≡ [] →
    CodesFolded steps kept lists [] rest codes
codes_start steps kept lists rest codes all none = record {
  all = sym all;
  many = ap (λ xs. length xs) none;
  folded = λ n names starts spell. none ∙ ap (λ m. list_below (pieces_by starts lists) m) (sym (ap (λ xs. length xs) none));
}

pub codes_end : (steps : List FlatStep) (kept : List (Option CheckerStart)) (lists yielded rest : List (List Op)) (codes : List (List Piece)) → rest ≡ [] →
    CodesFolded steps kept lists yielded rest codes → AreFolded steps kept lists codes
codes_end steps kept lists yielded rest codes none h n names starts spell =
    let whole : length codes ≡ length lists =
    h.many ∙ ap (λ xs. length xs) (sym (h.all ∙ ap (λ xs. yielded ++ xs) none ∙ append-nil yielded)) in
    h.folded n names starts spell ∙ ap (λ m. list_below (pieces_by starts lists) m) whole

module _ (steps : List FlatStep) (kept : List (Option CheckerStart)) (lists yielded rest : List (List Op)) (codes : List (List Piece))
    (can : CanBeFolded steps kept lists) (h : CodesFolded steps kept lists yielded rest codes) (ops : List Op) (later : List (List Op)) (first : rest ≡ ops ∷ later) where
  there : lists ≡ yielded ++ ops ∷ later
  there = h.all ∙ ap (λ xs. yielded ++ xs) first

  pub next_below : length codes < length kept
  next_below = omega (arith, h.many, can.many, ap (λ xs. length xs) there, length-append yielded (ops ∷ later))

  -- the list of the next task
  next_ops : get_or lists (length codes) [] ≡ ops
  next_ops = ap (λ t. get_or lists t []) h.many ∙ ap (λ xs. get_or xs (length yielded) []) there ∙ get_or-append_seam yielded ops later []

  pub next_few : length ops ≤ max_ops
  next_few = omega (arith, can.few (length codes), ap (λ xs. length xs) next_ops)

  module _ (start : Option CheckerStart) (is : start ≡ get_or kept (length codes) start) where
    -- its start
    next_start : start ≡ get_or kept (length codes) None
    next_start = is ∙ get_or_default kept (length codes) start None next_below

    pub next_tree : HasTreeAt steps start
    next_tree = subst (HasTreeAt steps) (sym next_start) (can.trees (length codes))

    module _ (pieces : List Piece) (does : (n : ℕ) (names : ℕ → List ℕ) (s : Option Start) → SpellsStart n names steps s start → pieces ≡ code_pieces s ops) where
      next_pieces : (n : ℕ) (names : ℕ → List ℕ) (starts : List (Option Start)) → SpellStarts n names steps starts kept → pieces ≡ pieces_by starts lists (length codes)
      next_pieces n names starts spell =
          does n names (get_or starts (length codes) None)
          (subst (SpellsStart n names steps (get_or starts (length codes) None)) (sym next_start) (spell (length codes)))
          ∙ ap (code_pieces (get_or starts (length codes) None)) (sym next_ops)

      pub next_folded : IsFolded pieces
      next_folded =
          let f = can.folded in
          subst IsFolded (sym (next_pieces f.0 f.1 f.2 f.3)) (f.4 (length codes))

      pub codes_next : (new : List (List Piece)) → new ≡ codes ++ pieces ∷ [] → CodesFolded steps kept lists (yielded ++ ops ∷ []) later new
      codes_next new more =
          let many : length new ≡ suc (length codes) = omega (arith, ap (λ xs. length xs) more, length-append codes (pieces ∷ [])) in
          record {
            all = there ∙ sym (append_assoc yielded (ops ∷ []) later);
            many = omega (arith, many, h.many, length-append yielded (ops ∷ []));
            folded = λ n names starts spell.
                more ∙ ap (λ xs. xs ++ pieces ∷ []) (h.folded n names starts spell)
                ∙ ap (λ ps. list_below (pieces_by starts lists) (length codes) ++ ps ∷ []) (next_pieces n names starts spell)
                ∙ ap (λ m. list_below (pieces_by starts lists) m) (sym many);
          }
