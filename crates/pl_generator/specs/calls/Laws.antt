-- What holds of the generated texts.
use Rattle.std.specs.Prelude.{◌≡◌, ℕ, ◌<◌, Ok, Err}
use Rattle.armus_base.specs.Limits.{max_tasks}
use Rattle.armus_base.specs.Plans.{Plan}
use Rattle.pl_syntax.specs.declared.fault.SyntaxFault.{SyntaxFault}
use Rattle.pl_syntax.specs.declared.tree.Program.{Program}
use Rattle.pl_syntax.specs.Grammar.{IsText, HasFault}
use Rattle.pl_plan.specs.declared.fault.CheckFault.{CheckFault}
use Rattle.pl_plan.specs.Unfolding.{plan_of}
use Rattle.pl_generator.specs.Generated.{generated_text}

-- The text with n workers is a program that unfolds to a plan, where a plan may have task 0 and n tasks more.
abbrev pub GeneratedIsAccepted : Type 0
GeneratedIsAccepted = (n : ℕ) → n < max_tasks → (program : Program) × IsText (generated_text n) program × (plan : Plan) × (plan_of program ≡ Ok plan)

-- it has no syntax fault
abbrev pub GeneratedHasNoSyntaxFault : Type 0
GeneratedHasNoSyntaxFault = (n : ℕ) → n < max_tasks → (fault : SyntaxFault) → HasFault (generated_text n) fault → ⊥

-- its unfolding has no fault
abbrev pub GeneratedHasNoCheckFault : Type 0
GeneratedHasNoCheckFault = (n : ℕ) → n < max_tasks → (program : Program) (fault : CheckFault) → IsText (generated_text n) program → plan_of program ≡ Err fault → ⊥
