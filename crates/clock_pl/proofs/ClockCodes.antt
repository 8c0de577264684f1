-- The codes of a clock plan, and the plan itself.
use Rattle.std.proofs.Common.{◌≡◌, ℕ, ◌<◌, ◌≤◌, ◌⊎◌, inl, inr, List, [], ◌∷◌, ◌++◌, length, map, Ok, Err, Result, Option, sym, ap, ◌∙◌, subst, refl, arith, append_assoc, append-nil}
use Rattle.std.specs.Prelude.{slice_index_or, sum_by}
use Rattle.std.proofs.Math.Seq.{get_or-append_seam}
use Rattle.std.proofs.lemmas.Bool.{cases_lt}
use Rattle.std.proofs.lemmas.List.{get_or_past, map-append}
use Rattle.std.proofs.lemmas.List.Sums.{get_or-le-sum_by}
use Rattle.armus_base.specs.CheckedPlans.{IsCheckedPlan}
use Rattle.armus_base.specs.Limits.{max_tasks}
use Rattle.armus_base.specs.calls.Pieces.{IsFolded, unfolded}
use Rattle.armus_base.specs.Pieces.{straight}
use Rattle.armus_base.specs.Plans.{Plan, straight_plan}
use Rattle.armus_base.specs.calls.Plans.{folded_plan}
use Rattle.armus_base.specs.declared.ids.TaskId.{TaskId}
use Rattle.armus_base.specs.declared.op.Op.{Op}
use Rattle.armus_base.specs.declared.piece.Piece.{Piece}
use Rattle.armus_base.proofs.Unfolding.{straight_is_folded, unfolded-straight}
use Rattle.clock_syntax.specs.Trees.{ClockTree}
use Rattle.clock_semantics.specs.Unfolding.{clock_plan_of}
use Rattle.clock_semantics.proofs.ClockPlanIsChecked.{clock_plan_is_checked}
use Rattle.clock_pl.specs.calls.ClockPlanning.{GivesClockPlan, as_fault}
use Rattle.clock_pl.specs.declared.fault.ClockEnd.{ClockEnd}
use Rattle.clock_pl.specs.declared.fault.ClockEnd.TheVariants as ends_by
use Rattle.clock_pl.specs.inside.ClockChecker.{ClockChecker}
use Rattle.clock_pl.specs.inside.ClockCheckerSteps.{GivesClockChecker, checker_activities, opening_checker}
use Rattle.clock_pl.proofs.Simulates.{plan_fault, planned}

-- the codes of the lists that are taken out
pub record CodesMade (lists yielded rest : List (List Op)) (codes : List (List Piece)) : Type 0 where
  pub all : lists ≡ yielded ++ rest
  pub made : codes ≡ map straight yielded

pub no_code : (lists rest : List (List Op)) (codes : List (List Piece)) → rest ≡ lists → codes ≡ [] → CodesMade lists [] rest codes
no_code lists rest codes all none = record { all = sym all; made = none }

module _ (lists yielded rest : List (List Op)) (codes : List (List Piece)) (h : CodesMade lists yielded rest codes) (ops : List Op) (later : List (List Op))
    (first : rest ≡ ops ∷ later) where
  there : lists ≡ yielded ++ ops ∷ later
  there = h.all ∙ ap (λ xs. yielded ++ xs) first

  pub next_ops : slice_index_or lists (length yielded) [] ≡ ops
  next_ops = ap (λ xs. slice_index_or xs (length yielded) []) there ∙ get_or-append_seam yielded ops later []

  pub code_made : (code : List Piece) (new : List (List Piece)) → code ≡ straight ops → new ≡ codes ++ code ∷ [] → CodesMade lists (yielded ++ ops ∷ []) later new
  code_made code new is e = record {
    all = there ∙ sym (append_assoc yielded (ops ∷ []) later);
    made = e ∙ ap (λ xs. xs ++ code ∷ []) h.made ∙ ap (λ c. map straight yielded ++ c ∷ []) is ∙ sym (map-append straight yielded (ops ∷ []));
  }

pub codes_made : (lists yielded rest : List (List Op)) (codes : List (List Piece)) → rest ≡ [] → CodesMade lists yielded rest codes → codes ≡ map straight lists
codes_made lists yielded rest codes none h = h.made ∙ ap (map straight) (sym (h.all ∙ ap (λ xs. yielded ++ xs) none ∙ append-nil yielded))

-- ---- the plan

straight_back : (lists : List (List Op)) → map unfolded (map straight lists) ≡ lists
straight_back [] = refl
straight_back (ops ∷ lists) = ap (λ xs. xs ∷ map unfolded (map straight lists)) (unfolded-straight ops) ∙ ap (λ xs. ops ∷ xs) (straight_back lists)

in_sum : (lists : List (List Op)) (t : ℕ) → length (slice_index_or lists t []) ≤ sum_by length lists
in_sum lists t = by (cases_lt t (length lists))
  where
    by : (t < length lists) ⊎ (length lists ≤ t) → length (slice_index_or lists t []) ≤ sum_by length lists
    by (inl l) = get_or-le-sum_by length lists t [] l
    by (inr g) = omega (arith, ap length (get_or_past lists t [] g))

module _ (p : ClockTree) (k : ClockChecker) (e : checker_activities max_tasks 0 (opening_checker p) ≡ Ok k) where
  checked : IsCheckedPlan (straight_plan k.parents k.makers k.codes)
  checked = clock_plan_is_checked p (straight_plan k.parents k.makers k.codes) (planned p k e)

  pub each_folded : (lists : List (List Op)) → lists ≡ k.codes → (t : ℕ) → IsFolded (straight (slice_index_or lists t []))
  each_folded lists is t = subst (λ xs. IsFolded (straight (slice_index_or xs t []))) (sym is)
      (straight_is_folded (slice_index_or k.codes t []) (omega (arith, in_sum k.codes t, checked.limits.few_ops)))

  module _ (parents : List (Option TaskId)) (makers : List TaskId) (lists : List (List Op)) (codes : List (List Piece))
      (ps : parents ≡ k.parents) (ms : makers ≡ k.makers) (ls : lists ≡ k.codes) (cs : codes ≡ map straight lists) where
    plan_is : folded_plan parents makers codes ≡ straight_plan k.parents k.makers k.codes
    plan_is =
        ap (folded_plan parents makers) (cs ∙ ap (map straight) ls)
        ∙ ap (λ xs. folded_plan xs makers (map straight k.codes)) ps
        ∙ ap (λ xs. folded_plan k.parents xs (map straight k.codes)) ms
        ∙ ap (λ xs. plan_with xs) (straight_back k.codes)
      where
        plan_with : List (List Op) → Plan
        plan_with xs = record { parents = k.parents; makers = k.makers; codes = xs; pieces = map straight k.codes }

    pub plan_checked : IsCheckedPlan (folded_plan parents makers codes)
    plan_checked = subst IsCheckedPlan (sym plan_is) checked

    pub plan_found : clock_plan_of p ≡ Ok (folded_plan parents makers codes)
    plan_found = planned p k e ∙ ap Ok (sym plan_is)

pub plan_err : (p : ClockTree) (old new : ClockChecker) (e : ClockEnd) (r : Result Plan ClockEnd) → old ≡ opening_checker p → r ≡ Err e →
    GivesClockChecker {A = Unit {0}} (Err e) (checker_activities max_tasks 0 old) new → GivesClockPlan r (clock_plan_of p)
plan_err p old new (ends_by.Clock f) r o is h =
    subst (λ z. GivesClockPlan z (clock_plan_of p)) (sym is) (plan_fault p (as_fault f) (ap (checker_activities max_tasks 0) (sym o) ∙ h))
plan_err p old new ends_by.NoMemory r o is h = subst (λ z. GivesClockPlan z (clock_plan_of p)) (sym is) tt
