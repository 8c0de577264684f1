-- From the flat steps of a program to its plan.
use Rattle.std.proofs.Common.{◌≡◌, ℕ, ◌≤◌, List, [], length, Ok, Option, Some, None, arith, sym, ◌∙◌, ap, subst}
use Rattle.std.specs.Prelude.{slice_index_or}
use Rattle.std.specs.Borrow.{Bor}
use Rattle.armus_base.specs.Finals.{list_below}
use Rattle.armus_base.specs.Limits.{max_ops, max_tasks}
use Rattle.armus_base.specs.calls.Pieces.{IsFolded}
use Rattle.armus_base.specs.declared.piece.Piece.{Piece}
use Rattle.armus_base.specs.declared.ids.TaskId.{TaskId}
use Rattle.armus_base.specs.declared.op.Op.{Op}
use Rattle.armus_base.specs.Plans.{Plan}
use Rattle.armus_base.specs.calls.Plans.{folded_plan}
use Rattle.armus_base.specs.CheckedPlans.{IsCheckedPlan}
use Rattle.pl_syntax.specs.declared.tree.Program.{Program}
use Rattle.pl_syntax.specs.declared.limits.TheConstants.{MAX_OPEN_BRACES}
use Rattle.pl_syntax.specs.calls.Tree.{AreNear}
use Rattle.pl_syntax.specs.Tree.{Tree, count, height}
use Rattle.pl_plan.specs.declared.step.FlatStep.{FlatStep}
use Rattle.pl_plan.specs.inside.Steps.{IsSpelled}
use Rattle.pl_plan.specs.inside.Numbers.{spelling}
use Rattle.pl_plan.specs.inside.Flattening.{AddsSteps, AreFlattened}
use Rattle.pl_plan.specs.inside.Checker.{Checker, CheckerStart, IsChecker, StartFits}
use Rattle.pl_plan.specs.inside.FoldsSteps.{AreFolded, CanBeFolded, HasTreeAt, SpellStarts, SpellsStart, pieces_by}
use Rattle.pl_plan.specs.inside.Opening.{IsOpeningChecker}
use Rattle.pl_plan.specs.inside.Shows.{IsNumbering, MaybeStartShows, ShowsState}
use Rattle.pl_plan.specs.calls.Folding.{HasFewTurns}
use Rattle.pl_plan.specs.Unfolding.{Start, UnfoldingState, opening_state, plan_of, unfold_tasks, with_pieces}
use Rattle.pl_plan.proofs.CodePieces.{end_fits}
use Rattle.pl_plan.proofs.PlanPieces.{end_folded, end_plan}
use Rattle.pl_plan.proofs.Spelled.{spelled_count, spelled_few, spelled_near}
use Rattle.pl_plan.proofs.Opens.{opens, plan_found}
use Rattle.pl_plan.proofs.UnfoldedIsChecked.{unfolded_is_checked}

-- the steps that a body adds to none are its own
pub flattened_alone : (a b : List (Bor (List ℕ))) (old steps : List FlatStep) (tree : Tree) (names : ℕ) → old ≡ [] → names ≡ length b → AddsSteps a b old steps tree →
    AreFlattened steps names tree
flattened_alone a b old steps tree names empty many adds = record {
  spelling = spelling b;
  distinct = subst (λ n. IsNumbering n (spelling b)) (sym many) adds.distinct;
  spelled = subst (λ n. IsSpelled n (spelling b) steps 0 tree (length steps)) (sym many)
      (subst (λ z. IsSpelled (length b) (spelling b) steps z tree (length steps)) (ap length empty) adds.spelled);
}

module _ {steps : List FlatStep} {names : ℕ} {tree : Tree} (flat : AreFlattened steps names tree) where
  -- as many steps as statements
  pub as_many_steps : length steps ≡ count tree
  as_many_steps = omega (arith, spelled_count names flat.spelling steps 0 tree (length steps) flat.spelled)

  -- what is kept first shows the state before the first visit
  pub opens_flat : (k : Checker) → IsOpeningChecker steps names k → ShowsState flat.spelling k (opening_state tree)
  opens_flat k o = opens flat.spelling steps names k tree o flat.distinct flat.spelled

  -- no await looks farther than it may
  pub flat_near : AreNear tree
  flat_near = spelled_near names flat.spelling steps 0 tree (length steps) flat.spelled

  -- and no loop has too many turns
  pub flat_few : HasFewTurns tree
  flat_few = spelled_few names flat.spelling steps 0 tree (length steps) flat.spelled

-- ---- what is kept last

-- the steps of a start that is kept
tree_at : (tasks phasers slot_count names : ℕ) (steps : List FlatStep) (kept : Option CheckerStart) → StartFits tasks phasers slot_count names steps kept → HasTreeAt steps kept
tree_at tasks phasers slot_count names steps None h = tt
tree_at tasks phasers slot_count names steps (Some kept) h = (h.within, (names, h.list.0, h.list.1, h.list.2))

-- are those of the start that it shows
spells_start : (names : ℕ → List ℕ) (slots : List ℕ) (steps : List FlatStep) (start : Option Start) (kept : Option CheckerStart) →
    MaybeStartShows names slots steps start kept → SpellsStart (length slots) names steps start kept
spells_start names slots steps None None h = tt
spells_start names slots steps (Some start) (Some kept) h = h.spelled
spells_start names slots steps None (Some kept) h = h
spells_start names slots steps (Some start) None h = h

-- what is kept behind the last visit shows where the unfolding ends, and these are its parts
pub record IsLast (names : ℕ → List ℕ) (k : Checker) (program : Program) (steps : List FlatStep) (kept : List (Option CheckerStart)) (codes : List (List Op)) :
    Type 0 where
  pub fits : IsChecker k
  pub deep : height program.body ≤ MAX_OPEN_BRACES
  pub few : HasFewTurns program.body
  pub end : (s : UnfoldingState) × (unfold_tasks program.two max_tasks 0 (opening_state program.body) ≡ Ok s) × ShowsState names k s
  pub steps_are : steps ≡ k.steps
  pub kept_are : kept ≡ k.starts
  pub codes_are : codes ≡ k.codes

module _ {names : ℕ → List ℕ} {k : Checker} {program : Program} {steps : List FlatStep} {kept : List (Option CheckerStart)} {codes : List (List Op)}
    (l : IsLast names k program steps kept codes) where
  abbrev w : (s : UnfoldingState) × (unfold_tasks program.two max_tasks 0 (opening_state program.body) ≡ Ok s) × ShowsState names k s
  w = l.end

  same_codes : w.0.plan.codes ≡ codes
  same_codes = w.2.plan.codes ∙ sym l.codes_are

  starts_spell : SpellStarts (length k.bindings.slots) names steps w.0.starts kept
  starts_spell t =
      subst (λ zs. SpellsStart (length k.bindings.slots) names zs (slice_index_or w.0.starts t None) (slice_index_or kept t None)) (sym l.steps_are)
      (subst (λ zs. SpellsStart (length k.bindings.slots) names k.steps (slice_index_or w.0.starts t None) (slice_index_or zs t None)) (sym l.kept_are)
      (spells_start names k.bindings.slots k.steps (slice_index_or w.0.starts t None) (slice_index_or k.starts t None) (w.2.starts t)))

  -- its codes can be folded
  pub last_can_fold : CanBeFolded steps kept codes
  last_can_fold = record {
    many = ap (λ zs. length zs) l.kept_are ∙ l.fits.starts_many ∙ sym l.fits.codes_many ∙ ap (λ zs. length zs) (sym l.codes_are);
    trees = λ t.
        subst (λ zs. HasTreeAt zs (slice_index_or kept t None)) (sym l.steps_are)
        (subst (λ zs. HasTreeAt k.steps (slice_index_or zs t None)) (sym l.kept_are)
        (tree_at (length k.parents) (length k.makers) k.bindings.slot_count (length k.bindings.slots) k.steps (slice_index_or k.starts t None)
        (l.fits.later t)));
    few = λ t. subst (λ zs. length (slice_index_or zs t []) ≤ max_ops) same_codes ((end_fits program w.0 w.1).1 t);
    folded = (
      length k.bindings.slots,
      names,
      w.0.starts,
      starts_spell,
      λ t. subst (λ zs. IsFolded (pieces_by w.0.starts zs t)) same_codes (end_folded program w.0 w.1 l.deep l.few t),
    );
  }

  -- and then its plan is the program's
  pub last_plan : (parents : List (Option TaskId)) (makers : List TaskId) (lists : List (List Piece)) → parents ≡ k.parents → makers ≡ k.makers →
      AreFolded steps kept codes lists → folded_plan parents makers lists ≡ with_pieces w.0
  last_plan parents makers lists p m folded =
      let pieces : lists ≡ (with_pieces w.0).pieces =
      subst (λ zs. lists ≡ list_below (pieces_by w.0.starts zs) (length zs)) (sym same_codes) (folded (length k.bindings.slots) names w.0.starts starts_spell) in
      ap (λ z. folded_plan z makers lists) (p ∙ sym w.2.plan.parents) ∙ ap (λ z. folded_plan w.0.plan.parents z lists) (m ∙ sym w.2.plan.makers)
      ∙ ap (λ z. folded_plan w.0.plan.parents w.0.plan.makers z) pieces ∙ sym (end_plan program w.0 w.1 l.deep l.few)

  pub last_found : (plan : Plan) → plan ≡ with_pieces w.0 → plan_of program ≡ Ok plan
  last_found plan is = plan_found program w.0 plan w.1 is

  pub last_checked : (plan : Plan) → AreNear program.body → plan ≡ with_pieces w.0 → IsCheckedPlan plan
  last_checked plan near is = unfolded_is_checked program plan near (last_found plan is)
