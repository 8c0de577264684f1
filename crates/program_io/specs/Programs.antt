-- The program of a text and the plan to which it unfolds, or why the text is refused.
use Rattle.std.specs.Prelude.{◌≡◌, Ok, Err}
use Rattle.armus_base.specs.Plans.{Plan}
use Rattle.pl_syntax.specs.declared.tree.Program.{Program}
use Rattle.pl_syntax.specs.Grammar.{IsText, HasFault}
use Rattle.pl_plan.specs.Unfolding.{plan_of}
use Rattle.report.specs.declared.refusal.Refusal.{Refusal}
use Rattle.report.specs.declared.refusal.Refusal.TheVariants.{Syntax, Check}
use Rattle.program_io.specs.Texts.{Text}

-- the text is this program, which unfolds to this plan
pub record IsChecked (text : Text) (program : Program) (plan : Plan) : Type 0 where
  pub reads : IsText text program
  pub unfolds : plan_of program ≡ Ok plan

-- the plan of a text
abbrev pub IsPlanOf : Text → Plan → Type 0
IsPlanOf text plan = (program : Program) × IsChecked text program plan

-- the text is refused: it is not in the grammar, or its unfolding has a fault; the first fault is told
abbrev pub IsFaultOf : Text → Refusal → Type 0
IsFaultOf text (Syntax fault) = HasFault text fault
IsFaultOf text (Check fault) = (program : Program) × IsText text program × (plan_of program ≡ Err fault)
IsFaultOf text _ = ⊥
