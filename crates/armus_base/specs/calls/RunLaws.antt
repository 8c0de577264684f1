-- Laws of runs: places fix the state, what is reached stays reached, no step is stuck, and all maximal plain runs end alike.
use Rattle.std.specs.Prelude.{◌≡◌, ℕ, true, List, ◌++◌, Some}
use Rattle.armus_base.specs.declared.event.Event.{Event}
use Rattle.armus_base.specs.Plans.{Plan, Action, action_at}
use Rattle.armus_base.specs.States.{State, Step, IsLegal, IsActive, IsReached}
use Rattle.armus_base.specs.Runs.{IsLegalRun, IsPlainRun, IsMaximal, state_after, places}
use Rattle.armus_base.specs.calls.Runs.{ArePrefixes}
use Rattle.armus_base.specs.Places.{state_at}
use Rattle.armus_base.specs.CheckedPlans.{IsCheckedPlan}
use Rattle.armus_base.specs.Avoidance.{IsAvoidedFinal, IsAvoidedRun}
use Rattle.armus_base.specs.Serial.{IsSerialAvoidedEnd, IsSerialAvoidedFinal, IsSerialAvoidedRun}

-- after a legal run of a checked plan, the state is the one that the places fix
abbrev pub PlacesFixState : Type 0
PlacesFixState = (plan : Plan) (h : List Step) → IsCheckedPlan plan → IsLegalRun plan h → state_after h ≡ state_at plan (places h)

-- two runs that lead to the same places end in the same state
abbrev pub SamePlacesSameState : Type 0
SamePlacesSameState =
    (plan : Plan) (h g : List Step) → IsCheckedPlan plan → IsLegalRun plan h → IsLegalRun plan g →
    ((t : ℕ) → places h t ≡ places g t) → state_after h ≡ state_after g

-- an event of a phaser that has been made, once reached, is reached after each run whose places are all at or after
abbrev pub ReachedStays : Type 0
ReachedStays =
    (plan : Plan) (h g : List Step) (e : Event) → IsCheckedPlan plan → IsLegalRun plan h → IsLegalRun plan g →
    ArePrefixes (places h) (places g) → (state_after h).made e.p.0 ≡ true → IsReached (state_after h) e → IsReached (state_after g) e

-- an event of a phaser that has been made, once reached, stays reached when the run goes on
abbrev pub ReachedStaysInRun : Type 0
ReachedStaysInRun =
    (plan : Plan) (h more : List Step) (e : Event) → IsCheckedPlan plan → IsLegalRun plan (more ++ h) →
    (state_after h).made e.p.0 ≡ true → IsReached (state_after h) e → IsReached (state_after (more ++ h)) e

-- the next action of a task by its code is legal, if the task is forked, not published and not refused
abbrev pub NextIsLegal : Type 0
NextIsLegal =
    (plan : Plan) (h : List Step) (t : ℕ) (x : Action) → IsCheckedPlan plan → IsLegalRun plan h → IsActive (state_after h) t →
    action_at plan t (places h t).done ≡ Some x → IsLegal plan (state_after h) t x

-- each checked plan has a maximal plain run
abbrev pub MaximalExists : Type 0
MaximalExists = (plan : Plan) → IsCheckedPlan plan → (h : List Step) × IsPlainRun plan h × IsMaximal plan h

-- all maximal plain runs end with the same places and the same state
abbrev pub OneEnd : Type 0
OneEnd =
    (plan : Plan) (h g : List Step) → IsCheckedPlan plan → IsPlainRun plan h → IsPlainRun plan g → IsMaximal plan h → IsMaximal plan g →
    ((t : ℕ) → places h t ≡ places g t) × state_after h ≡ state_after g

-- the serial avoided run is an avoided run
abbrev pub SerialIsAvoided : Type 0
SerialIsAvoided = (plan : Plan) (h : List Step) → IsCheckedPlan plan → IsSerialAvoidedRun plan h → IsAvoidedRun plan h

-- the end of the serial avoided run is the end of a maximal avoided run
abbrev pub SerialFinalIsAvoided : Type 0
SerialFinalIsAvoided = (plan : Plan) (s : State) → IsCheckedPlan plan → IsSerialAvoidedFinal plan s → IsAvoidedFinal plan s

-- the serial avoided run has one end: all that have ended are the same run
abbrev pub OneSerialEnd : Type 0
OneSerialEnd = (plan : Plan) (h g : List Step) → IsCheckedPlan plan → IsSerialAvoidedEnd plan h → IsSerialAvoidedEnd plan g → h ≡ g
