-- Laws of plans: a plan stays checked while it is unfolded, and its phases are bounded.
use Rattle.std.specs.Prelude.{◌≡◌, ℕ, ◌+◌, ◌<◌, ◌≤◌, List, Some, length, sum_by}
use Rattle.armus_base.specs.declared.event.Event.{Event}
use Rattle.armus_base.specs.declared.piece.Piece.{Piece}
use Rattle.armus_base.specs.Limits.{max_offset}
use Rattle.armus_base.specs.Plans.{Plan, actions, maker_of}
use Rattle.armus_base.specs.Places.{phases_after, published_after}
use Rattle.armus_base.specs.CheckedPlans.{IsCheckedPlan, HasTables, IsWithinLimits}
use Rattle.armus_base.specs.calls.CheckedPlans.{Grows, IsSoundGrowth, first_plan}

-- the unfolding begins with a checked plan
abbrev pub FirstPlanIsChecked : Type 0
FirstPlanIsChecked = IsCheckedPlan first_plan

-- a plan stays checked while it is unfolded, task by task: only the new tasks, phasers and actions are to be looked at
abbrev pub PlanGrows : Type 0
PlanGrows =
    (plan plan' : Plan) (t : ℕ) → IsCheckedPlan plan → Grows plan plan' t → HasTables plan' → IsWithinLimits plan' →
    IsSoundGrowth plan plan' t → IsCheckedPlan plan'

-- what the plan fixes of task t so far stays fixed while it is unfolded
abbrev pub PhasesStayFixed : Type 0
PhasesStayFixed =
    (plan plan' : Plan) (t k : ℕ) → IsCheckedPlan plan → Grows plan plan' t → HasTables plan' → k ≤ length (actions plan t) →
    phases_after plan' t k ≡ phases_after plan t k

-- a plan stays checked whatever its pieces are: only its codes are looked at
abbrev pub CheckedByCodes : Type 0
CheckedByCodes = (plan : Plan) (pieces : List (List Piece)) → IsCheckedPlan plan → IsCheckedPlan (record plan { pieces = pieces })

-- the makers of the phasers are tasks
abbrev pub MakersAreTasks : Type 0
MakersAreTasks = (plan : Plan) (p : ℕ) → IsCheckedPlan plan → p < length plan.makers → maker_of plan p < length plan.parents

-- no phase is above the number of all ops
abbrev pub PhasesFit : Type 0
PhasesFit = (plan : Plan) (t k p n : ℕ) → IsCheckedPlan plan → phases_after plan t k p ≡ Some n → n ≤ sum_by length plan.codes

-- no phase that is awaited is farther above the number of all ops than an await may look
abbrev pub AwaitedPhasesFit : Type 0
AwaitedPhasesFit =
    (plan : Plan) (t k : ℕ) (e : Event) → IsCheckedPlan plan → published_after plan t k ≡ Some e → e.n ≤ sum_by length plan.codes + max_offset
