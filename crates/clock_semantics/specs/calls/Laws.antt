-- Laws of the unfolding of clock programs.
use Rattle.std.specs.Prelude.{◌≡◌, ℕ, ◌<◌, ◌≤◌, ◌⊎◌, Ok, Err, Some, List, [], ◌∷◌, ◌++◌, Contains, slice_get}
use Rattle.armus_base.specs.CheckedPlans.{IsCheckedPlan}
use Rattle.armus_base.specs.Plans.{Plan}
use Rattle.clock_syntax.specs.Trees.{ClockTree, clock_count}
use Rattle.clock_semantics.specs.Moves.{Move, stops}
use Rattle.clock_semantics.specs.Unfolding.{ClockUnfolding, activities, clock_plan_of, clock_unfolded}
use Rattle.pl_plan.specs.declared.fault.CheckFault.{CheckFault}

-- the plan to which a clock program unfolds is checked
abbrev pub ClockPlanIsChecked : Type 0
ClockPlanIsChecked = (program : ClockTree) (plan : Plan) → clock_plan_of program ≡ Ok plan → IsCheckedPlan plan

-- a fault has one of the nine kinds, and the number of a statement of the program; or it is the want of an op at the end of activity 0, with number 0
abbrev pub ClockFaultIsOfText : Type 0
ClockFaultIsOfText =
    (program : ClockTree) (fault : CheckFault) → clock_plan_of program ≡ Err fault →
    (1 ≤ fault.kind) × (fault.kind ≤ 9) × (fault.statement ≤ clock_count program)
    × ((1 ≤ fault.statement) ⊎ ((fault.kind ≡ 8) × (fault.statement ≡ 0)))

-- no move of these is a stop
abbrev pub HoldsNoStop : List Move → Type 0
HoldsNoStop ms = (ps : List ℕ) → Contains ms (stops ps) → ⊥

-- each activity that there is has been unfolded to its end: its moves are some that are no stop, and then one that is
abbrev pub EachActivityStops : Type 0
EachActivityStops =
    (program : ClockTree) (u : ClockUnfolding) → clock_unfolded program ≡ Ok u → (t : ℕ) → t < activities u →
    (ms : List Move) × (ps : List ℕ) × slice_get u.moves t ≡ Some (ms ++ stops ps ∷ []) × HoldsNoStop ms
