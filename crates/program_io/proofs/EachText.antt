-- Each text has a plan, or it is refused.
use Rattle.std.proofs.Common.{◌≡◌, ◌⊎◌, inl, inr, refl}
use Rattle.std.specs.Prelude.{Result, Ok, Err}
use Rattle.armus_base.specs.Plans.{Plan}
use Rattle.pl_plan.specs.declared.fault.CheckFault.{CheckFault}
use Rattle.pl_plan.specs.Unfolding.{plan_of}
use Rattle.pl_syntax.specs.Grammar.{IsText}
use Rattle.pl_syntax.specs.declared.tree.Program.{Program}
use Rattle.pl_syntax.proofs.Whole.{one_of_both}
use Rattle.report.specs.declared.refusal.Refusal.{Refusal}
use Rattle.report.specs.declared.refusal.Refusal.TheVariants.{Syntax, Check as Checked}
use Rattle.program_io.specs.Programs.{IsFaultOf, IsPlanOf}
use Rattle.program_io.specs.Texts.{Text}

abbrev HasPlanOrFault : Text → Type 0
HasPlanOrFault text = ((plan : Plan) × IsPlanOf text plan) ⊎ ((why : Refusal) × IsFaultOf text why)

unfolds_or_not : (text : Text) (p : Program) → IsText text p → (r : Result Plan CheckFault) → plan_of p ≡ r → HasPlanOrFault text
unfolds_or_not text p reads (Ok plan) e = inl (plan, (p, record { reads = reads; unfolds = e }))
unfolds_or_not text p reads (Err fault) e = inr (Checked fault, (p, reads, e))

pub plan_or_refused : (text : Text) → HasPlanOrFault text
plan_or_refused text =
    elim (one_of_both text) [
      | inl one ↦ let (p, reads) = one in unfolds_or_not text p reads (plan_of p) refl
      | inr one ↦ let (fault, is) = one in inr (Syntax fault, is)
    ]
