-- Laws of final states as data: what their statuses and ends say of the state.
use Rattle.std.specs.Prelude.{◌≡◌, ℕ, ◌<◌, ◌↔◌, Bool, true, false, List, Some, None, length, slice_get}
use Rattle.armus_base.specs.declared.ending.TaskEnd.{TaskEnd}
use Rattle.armus_base.specs.declared.ending.TaskEnd.TheVariants.{Done, Blocked, Refused, Unforked}
use Rattle.armus_base.specs.declared.event.Event.{Event}
use Rattle.armus_base.specs.declared.status.Status.{Status}
use Rattle.armus_base.specs.CheckedPlans.{IsCheckedPlan}
use Rattle.armus_base.specs.Deadlocks.{IsDeadBy, IsDeadIn, IsListedAt, IsListedOn}
use Rattle.armus_base.specs.Finals.{end_of, final_of, statuses_on}
use Rattle.armus_base.specs.calls.Finals.{statuses_of}
use Rattle.armus_base.specs.Plans.{Plan, action_at}
use Rattle.armus_base.specs.Runs.{IsLegalRun, IsMaximal, places, state_after}
use Rattle.armus_base.specs.States.{IsReached, State, Step}
use Rattle.armus_base.specs.calls.Statuses.{IsInOrder}

-- a published task of the plan has this phase on an asked phaser of the plan
pub record HasAskedPhase (plan : Plan) (s : State) (asked : ℕ → Bool) (t p n : ℕ) : Type 0 where
  pub task : t < length plan.parents
  pub event : Event
  pub published : s.published t ≡ Some event
  pub phaser : p < length plan.makers
  pub asked_for : asked p ≡ true
  pub phase : s.phases t p ≡ Some n

-- the list has just the statuses of the published tasks, each with just its phases on the asked phasers, in order
pub record AreStatuses (plan : Plan) (s : State) (asked : ℕ → Bool) (list : List Status) : Type 0 where
  pub events : (t : ℕ) (e : Event) → IsListedOn list t e ↔ (t < length plan.parents × s.published t ≡ Some e)
  pub phases : (t p n : ℕ) → IsListedAt list t p n ↔ HasAskedPhase plan s asked t p n
  pub in_order : IsInOrder list

-- the statuses of a state are those
abbrev pub StatusesAre : Type 0
StatusesAre = (plan : Plan) (s : State) (asked : ℕ → Bool) → IsCheckedPlan plan → AreStatuses plan s asked (statuses_on plan s asked)

-- who is published or a member is a task of the plan, and whoever is a member of a phaser, it is one of the plan
pub record IsOfPlan (plan : Plan) (s : State) : Type 0 where
  pub published : (t : ℕ) (e : Event) → s.published t ≡ Some e → t < length plan.parents
  pub member : (t p n : ℕ) → s.phases t p ≡ Some n → t < length plan.parents
  pub phaser : (t p n : ℕ) → s.phases t p ≡ Some n → p < length plan.makers

-- the state after a legal run of a checked plan is one of the plan
abbrev pub RunIsOfPlan : Type 0
RunIsOfPlan = (plan : Plan) (h : List Step) → IsCheckedPlan plan → IsLegalRun plan h → IsOfPlan plan (state_after h)

-- the tasks that are dead by the statuses of a state are those that are dead in it
abbrev pub DeadByStatuses : Type 0
DeadByStatuses = (plan : Plan) (s : State) (t : ℕ) → IsOfPlan plan s → IsDeadBy (statuses_of plan s) t ↔ IsDeadIn s t

-- the tasks that are dead by the statuses of its final value, which have only phases on awaited phasers, are those that are dead in the state
abbrev pub DeadByFinal : Type 0
DeadByFinal = (plan : Plan) (s : State) (t : ℕ) → IsOfPlan plan s → IsDeadBy (final_of plan s).blocked t ↔ IsDeadIn s t

-- the final value has one end for each task of the plan
pub record HasEnds (plan : Plan) (s : State) : Type 0 where
  pub counted : length (final_of plan s).ends ≡ length plan.parents
  pub each : (t : ℕ) → t < length plan.parents → slice_get (final_of plan s).ends t ≡ Some (end_of s t)

-- the ends stand in order of number
abbrev pub EndsAre : Type 0
EndsAre = (plan : Plan) (s : State) → HasEnds plan s

-- what an end says of its task after a run
abbrev pub Tells : Plan → List Step → ℕ → TaskEnd → Type 0
Tells plan h t Done = (state_after h).forked t ≡ true × action_at plan t (places h t).done ≡ None
Tells plan h t (Blocked e) = (state_after h).published t ≡ Some e × (IsReached (state_after h) e → ⊥)
Tells plan h t (Refused e) = (state_after h).refused t ≡ Some e × ((p : ℕ) → (state_after h).phases t p ≡ None)
Tells plan h t Unforked = (state_after h).forked t ≡ false

-- after a maximal run each task's end says how it stands: its code is done, or it waits on an event that is not reached, or it is refused and a
-- member of nothing, or it is not forked
abbrev pub EndsTell : Type 0
EndsTell = (plan : Plan) (h : List Step) (t : ℕ) → IsCheckedPlan plan → IsLegalRun plan h → IsMaximal plan h → Tells plan h t (end_of (state_after h) t)
