-- Laws of the unfolding.
use Rattle.std.specs.Prelude.{◌≡◌, ◌≤◌, ◌⊎◌, ◌↔◌, true, Ok, Err}
use Rattle.pl_syntax.specs.declared.tree.Program.{Program}
use Rattle.pl_syntax.specs.calls.Tree.{AreNear}
use Rattle.pl_syntax.specs.Tree.{count}
use Rattle.armus_base.specs.Plans.{Plan}
use Rattle.armus_base.specs.CheckedPlans.{IsCheckedPlan}
use Rattle.pl_plan.specs.declared.fault.CheckFault.{CheckFault}
use Rattle.pl_plan.specs.Unfolding.{plan_of}
use Rattle.pl_plan.specs.calls.Stages.{Unfolds}
use Rattle.pl_plan.specs.Stages.{IsFirstCheckFault}

-- the plan to which a program unfolds is checked, where no await looks farther than it may
abbrev pub UnfoldedIsChecked : Type 0
UnfoldedIsChecked = (program : Program) (plan : Plan) → AreNear program.body → plan_of program ≡ Ok plan → IsCheckedPlan plan

-- a fault has one of the eleven kinds, and the number of a statement of the program; or in PL 2 it is the want of an op at the end of task 0, with number 0
abbrev pub FaultIsOfProgram : Type 0
FaultIsOfProgram =
    (program : Program) (fault : CheckFault) → plan_of program ≡ Err fault →
    (1 ≤ fault.kind) × (fault.kind ≤ 11) × (fault.statement ≤ count program.body)
    × ((1 ≤ fault.statement) ⊎ ((program.two ≡ true) × (fault.kind ≡ 9) × (fault.statement ≡ 0)))

-- the plan of a program is the one to which it unfolds, by the relation
abbrev pub PlanIsUnfolded : Type 0
PlanIsUnfolded = (program : Program) (plan : Plan) → (plan_of program ≡ Ok plan) ↔ Unfolds program plan

-- the fault of a program is its first one, by the relation
abbrev pub FaultIsFirst : Type 0
FaultIsFirst = (program : Program) (fault : CheckFault) → (plan_of program ≡ Err fault) ↔ IsFirstCheckFault program fault
