-- A text has one plan, and a text with a plan is not refused.
use Rattle.std.proofs.Common.{◌≡◌, subst}
use Rattle.std.specs.Prelude.{Ok, Err}
use Rattle.armus_base.specs.CheckedPlans.{IsCheckedPlan}
use Rattle.armus_base.specs.Plans.{Plan}
use Rattle.pl_syntax.specs.declared.tree.Program.{Program}
use Rattle.pl_syntax.proofs.Unique.{one_tree, text_or_fault}
use Rattle.pl_plan.specs.Unfolding.{plan_of}
use Rattle.pl_plan.proofs.TextsAreNear.{text_is_checked}
use Rattle.report.specs.declared.refusal.Refusal.{Refusal}
use Rattle.report.specs.declared.refusal.Refusal.TheVariants as refusal
use Rattle.program_io.specs.Texts.{Text}
use Rattle.program_io.specs.Programs.{IsChecked, IsFaultOf, IsPlanOf}

-- a text with a plan is not refused
pub plan_or_fault : (text : Text) (why : Refusal) (program : Program) (plan : Plan) → IsFaultOf text why → IsChecked text program plan → ⊥
plan_or_fault text (refusal.Syntax fault) program plan has is = text_or_fault text program fault is.reads has
plan_or_fault text (refusal.Check fault) program plan (other, reads, unfolds) is =
    let same : other ≡ program = one_tree text other program reads is.reads in
    let both : plan_of program ≡ Err fault = subst (λ p. plan_of p ≡ Err fault) same unfolds in
    let unfolded : plan_of program ≡ Ok plan = is.unfolds in absurd (cc)
plan_or_fault text refusal.Length program plan has is = absurd has
plan_or_fault text (refusal.Schedule fault) program plan has is = absurd has

-- a text has one plan
pub one_plan : (text : Text) (plan other : Plan) → IsPlanOf text plan → IsPlanOf text other → plan ≡ other
one_plan text plan other (program, is) (second, are) =
    let same : program ≡ second = one_tree text program second is.reads are.reads in
    let unfolds : plan_of second ≡ Ok plan = subst (λ p. plan_of p ≡ Ok plan) same is.unfolds in
    let unfolded : plan_of second ≡ Ok other = are.unfolds in cc

-- the plan of a text is checked
pub checked_plan : (text : Text) (plan : Plan) → IsPlanOf text plan → IsCheckedPlan plan
checked_plan text plan (program, is) = text_is_checked text program plan is.reads is.unfolds
