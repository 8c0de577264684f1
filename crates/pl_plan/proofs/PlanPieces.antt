-- The pieces of a program's plan: those of its codes, which they stand for.
use Rattle.std.proofs.Common.{◌≡◌, ℕ, zero, suc, ◌<◌, ◌≤◌, None, Ok, List, [], ◌∷◌, ◌++◌, length, get_or, map, refl, sym, ap, subst, ◌∙◌, arith, inl, inr}
use Rattle.std.specs.Prelude.{slice_index_or}
use Rattle.std.proofs.lemmas.Bool.{cases_lt}
use Rattle.std.proofs.lemmas.List.{ext_get_or, get_or_past, map-append}
use Rattle.std.proofs.lemmas.Option.{get_or_from_slice_get, unwrap_or-slice_get}
use Rattle.armus_base.specs.declared.piece.Piece.{Piece}
use Rattle.armus_base.specs.Limits.{max_tasks}
use Rattle.armus_base.specs.Finals.{list_below}
use Rattle.armus_base.specs.calls.Pieces.{IsFolded, unfolded}
use Rattle.armus_base.specs.Plans.{Plan}
use Rattle.armus_base.specs.calls.Plans.{folded_plan, pieces_of}
use Rattle.armus_base.proofs.Below.{length-list_below, list_below-at}
use Rattle.pl_syntax.specs.declared.limits.TheConstants.{MAX_OPEN_BRACES}
use Rattle.pl_syntax.specs.declared.tree.Program.{Program}
use Rattle.pl_syntax.specs.Tree.{height}
use Rattle.pl_syntax.proofs.Writable.{text_is_writable}
use Rattle.pl_plan.specs.Unfolding.{UnfoldingState, code_pieces, opening_state, pieces_at, plan_of, unfold_tasks, with_pieces}
use Rattle.pl_plan.specs.calls.Folding.{HasCodePieces, HasFewTurns, HasPieces, HaveCodePieces}
use Rattle.pl_plan.specs.calls.FoldingLaws.{PlanHasPieces, PlansOfTexts}
use Rattle.pl_plan.proofs.CodePieces.{code_folds, code_has, end_fits, has_computed, one_list, one_list_of_pieces, writable_has_few_turns}
use Rattle.pl_plan.proofs.TasksLeave.{start_at}
use Rattle.pl_plan.proofs.VisitsLeave.{bind_ok, code, ok_is}

-- ---- lists made of a function

-- the list of what a function gives below a bound is the one with these elements
pub below_is : {A : Type 0} (d : A) (f : ℕ → A) (n : ℕ) (xs : List A) → length xs ≡ n → ((k : ℕ) → k < n → f k ≡ get_or xs k d) → list_below f n ≡ xs
below_is d f n xs many each =
    ext_get_or d (list_below f n) xs (length-list_below f n ∙ sym many)
    (λ k l.
    let within : k < n = omega (arith, l, length-list_below f n) in
    get_or_from_slice_get (list_below f n) k (f k) d (list_below-at f n k within) ∙ each k within)

map_below : {A B : Type 0} (g : A → B) (f : ℕ → A) (n : ℕ) → map g (list_below f n) ≡ list_below (λ k. g (f k)) n
map_below g f zero = refl
map_below g f (suc n) = map-append g (list_below f n) (f n ∷ []) ∙ ap (λ xs. xs ++ g (f n) ∷ []) (map_below g f n)

-- ---- at the end of an unfolding

module _ (program : Program) (end : UnfoldingState) (e : unfold_tasks program.two max_tasks 0 (opening_state program.body) ≡ Ok end) where
  -- each code has the pieces that are computed
  pub end_pieces : (t : ℕ) → HasCodePieces program.two (start_at end t) (code end t) (pieces_at end t)
  end_pieces t = let h = code_has program end e t in has_computed program.two (start_at end t) (code end t) h.0 h.1

  -- behind the last code there are none
  none_behind : (t : ℕ) → length end.plan.codes ≤ t → pieces_at end t ≡ []
  none_behind t l = ap (λ o. code_pieces o (code end t)) (get_or_past end.starts t None (omega (arith, l, (end_fits program end e).0)))

  pub pieces_there : (t : ℕ) → slice_index_or (with_pieces end).pieces t [] ≡ pieces_at end t
  pieces_there t = elim (cases_lt t (length end.plan.codes)) [
    | inl l ↦
        get_or_from_slice_get (with_pieces end).pieces t (pieces_at end t) [] (list_below-at (pieces_at end) (length end.plan.codes) t l)
    | inr l ↦
        get_or_past (with_pieces end).pieces t [] (omega (arith, l, length-list_below (pieces_at end) (length end.plan.codes))) ∙ sym (none_behind t l)
  ]

  pub end_has_pieces : HaveCodePieces program.two end (with_pieces end).pieces
  end_has_pieces = record {
    many = length-list_below (pieces_at end) (length end.plan.codes);
    each = λ t. subst (λ ps. HasCodePieces program.two (start_at end t) (code end t) ps) (sym (pieces_there t)) (end_pieces t);
  }

  -- and no other lists
  pub one_list_each : (lists : List (List Piece)) → HaveCodePieces program.two end lists → (with_pieces end).pieces ≡ lists
  one_list_each lists h =
      below_is [] (pieces_at end) (length end.plan.codes) lists h.many
      (λ t l. one_list program.two (start_at end t) (code end t) (pieces_at end t) (get_or lists t []) (end_pieces t) (h.each t))

  module _ (deep : height program.body ≤ MAX_OPEN_BRACES) (few : HasFewTurns program.body) where
    pub end_folded : (t : ℕ) → IsFolded (pieces_at end t)
    end_folded t = (code_folds program end deep few e t (pieces_at end t) (end_pieces t)).0

    -- the plan is the one whose codes are kept as these pieces
    pub end_plan : with_pieces end ≡ folded_plan end.plan.parents end.plan.makers (with_pieces end).pieces
    end_plan = ap (λ codes. record (with_pieces end) { codes = codes }) (sym stands)
      where
        stands : map unfolded (with_pieces end).pieces ≡ end.plan.codes
        stands =
            map_below unfolded (pieces_at end) (length end.plan.codes)
            ∙ below_is [] (λ t. unfolded (pieces_at end t)) (length end.plan.codes) end.plan.codes refl
            (λ t l. (code_folds program end deep few e t (pieces_at end t) (end_pieces t)).1)

-- ---- of a program's plan

its_pieces : (program : Program) (plan : Plan) → plan_of program ≡ Ok plan → (t : ℕ) → HasPieces program t (pieces_of plan t)
unfolding plan_of
its_pieces program plan e t =
    let b = bind_ok (unfold_tasks program.two max_tasks 0 (opening_state program.body)) (λ s. Ok (with_pieces s)) plan e in
    let is : pieces_at b.0 t ≡ pieces_of plan t =
    sym (pieces_there program b.0 b.1 t) ∙ sym (unwrap_or-slice_get (with_pieces b.0).pieces t []) ∙ ap (λ p. pieces_of p t) (ok_is (with_pieces b.0) plan b.2) in
    record {
      end = b.0;
      unfolds = b.1;
      pieces = subst (λ ps. HasCodePieces program.two (start_at b.0 t) (code b.0 t) ps) is (end_pieces program b.0 b.1 t);
    }

pub plan_has_pieces : PlanHasPieces
plan_has_pieces program plan e t ps = (
  λ has. one_list_of_pieces program t ps (pieces_of plan t) has (its_pieces program plan e t),
  λ same. subst (HasPieces program t) (sym same) (its_pieces program plan e t),
)

pub plans_of_texts : PlansOfTexts
unfolding plan_of
plans_of_texts text program plan is e =
    let b = bind_ok (unfold_tasks program.two max_tasks 0 (opening_state program.body)) (λ s. Ok (with_pieces s)) plan e in
    let folds = end_plan program b.0 b.1 is.shallow (writable_has_few_turns program.body (text_is_writable text program is).tree) in
    subst (λ (p : Plan). p ≡ folded_plan p.parents p.makers p.pieces) (ok_is (with_pieces b.0) plan b.2) folds
