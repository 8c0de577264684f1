-- A clock text with a plan is not refused, and each clock text has a plan or is refused.
use Rattle.std.proofs.Common.{◌≡◌, ◌⊎◌, inl, inr, refl, subst}
use Rattle.std.specs.Prelude.{Result, Ok, Err}
use Rattle.armus_base.specs.CheckedPlans.{IsCheckedPlan}
use Rattle.armus_base.specs.Plans.{Plan}
use Rattle.clock_syntax.specs.Trees.{ClockTree}
use Rattle.clock_syntax.specs.Grammar.{IsClockText}
use Rattle.clock_syntax.proofs.ClockTexts.{clock_tree_or_fault}
use Rattle.clock_syntax.proofs.ClockUnique.{not_both_clocks, one_clock_tree}
use Rattle.clock_semantics.specs.Unfolding.{clock_plan_of}
use Rattle.clock_semantics.proofs.ClockPlanIsChecked.{clock_plan_is_checked}
use Rattle.pl_plan.specs.declared.fault.CheckFault.{CheckFault}
use Rattle.program_io.specs.Texts.{Text}
use Rattle.armus_top.specs.Clocks.{IsClockPlanOf, IsClockRefused}

-- a clock text with a plan is not refused
pub clock_plan_or_refused : (text line : Text) (plan : Plan) → IsClockRefused text line → IsClockPlanOf text plan → ⊥
clock_plan_or_refused text line plan (inl (fault, has, line_is)) (program, reads, unfolds) = not_both_clocks text program fault reads has
clock_plan_or_refused text line plan (inr (other, fault, read, failed, line_is)) (program, reads, unfolds) =
    let same : other ≡ program = one_clock_tree text other program read reads in
    let both : clock_plan_of program ≡ Err fault = subst (λ p. clock_plan_of p ≡ Err fault) same failed in
    let unfolded : clock_plan_of program ≡ Ok plan = unfolds in absurd (cc)

-- the plan of a clock text is checked
pub checked_clock_plan : (text : Text) (plan : Plan) → IsClockPlanOf text plan → IsCheckedPlan plan
checked_clock_plan text plan (program, reads, unfolds) = clock_plan_is_checked program plan unfolds

abbrev HasClockPlanOrRefusal : Text → Type 0
HasClockPlanOrRefusal text = ((plan : Plan) × IsClockPlanOf text plan) ⊎ ((line : Text) × IsClockRefused text line)

unfolds_or_not : (text : Text) (p : ClockTree) → IsClockText text p → (r : Result Plan CheckFault) → clock_plan_of p ≡ r → HasClockPlanOrRefusal text
unfolds_or_not text p reads (Ok plan) e = inl (plan, (p, reads, e))
unfolds_or_not text p reads (Err fault) e = inr (_, inr (p, fault, reads, e, refl))

-- each clock text has a plan or is refused
pub clock_plan_or_line : (text : Text) → HasClockPlanOrRefusal text
clock_plan_or_line text =
    elim (clock_tree_or_fault text) [
      | inl one ↦ let (p, reads) = one in unfolds_or_not text p reads (clock_plan_of p) refl
      | inr one ↦ let (fault, is) = one in inr (_, inl (fault, is, refl))
    ]
