-- Laws of decisions: the list in hand decides whether an await would be dead.
use Rattle.std.specs.Prelude.{◌≡◌, ◌≢◌, ℕ, true, List, Option, Some, None}
use Rattle.armus_base.specs.declared.event.Event.{Event}
use Rattle.armus_base.specs.declared.status.Status.{Status}
use Rattle.armus_base.specs.Plans.{Plan, Action, Aim, Blocks, Refuses}
use Rattle.armus_base.specs.States.{State, after, IsLegal}
use Rattle.armus_base.specs.Runs.{Place, IsReachable}
use Rattle.armus_base.specs.Places.{state_at}
use Rattle.armus_base.specs.CheckedPlans.{IsCheckedPlan}
use Rattle.armus_base.specs.Deadlocks.{IsDeadBy, IsListedOn, NobodyDead}
use Rattle.armus_base.specs.calls.Boards.{IsLawful, MayDo}
use Rattle.armus_base.specs.calls.Seats.{SeenBy, HasLockWith, IsAsFarOn, Found, StillAgrees, await_word, IsSeenAfterAwait, AvoidsByWhatIsSeen}
use Rattle.armus_base.specs.calls.Decisions.{StandsBefore, HasOwnStatus, HasOtherStatuses, IsEnoughToDecide, IsInHand, Decides, HasAllFound}

-- a list of statuses that is enough decides on an await
abbrev pub ListDecides : Type 0
ListDecides =
    (plan : Plan) (a : ℕ → Place) (t : ℕ) (event : Event) (list : List Status) → IsCheckedPlan plan → IsReachable plan a →
    IsEnoughToDecide plan (state_at plan a) a t event list → Decides (state_at plan a) t event list

-- where a holder of the lock has found all other tasks, and the list has each that it found waiting, it has each published one, and nobody is dead
abbrev pub FoundArePublished : Type 0
FoundArePublished =
    (plan : Plan) (t : ℕ) (a : ℕ → Place) (lock : Option ℕ) (seen : SeenBy) (list : List Status) → IsCheckedPlan plan →
    IsLawful true plan a lock → HasLockWith plan t a lock seen → (state_at plan a).published t ≡ None → HasAllFound plan t seen list →
    NobodyDead (state_at plan a) × ((u : ℕ) (e : Event) → (state_at plan a).published u ≡ Some e → IsListedOn list u e)

-- in each lawful state that has the lock with the seat, the list in hand of a seat that has found all other tasks decides on its await
abbrev pub ListInHandDecides : Type 0
ListInHandDecides =
    (plan : Plan) (t : ℕ) (aim : Aim) (event : Event) (seen : SeenBy) (list : List Status) (a : ℕ → Place) (lock : Option ℕ) → IsCheckedPlan plan →
    HasAllFound plan t seen list → IsLawful true plan a lock → HasLockWith plan t a lock seen → StandsBefore plan (state_at plan a) a t aim event →
    HasOwnStatus (state_at plan a) t event list → HasOtherStatuses plan (state_at plan a) a t list → Decides (state_at plan a) t event list

-- what a holder of the lock found of another task still agrees with the state, whatever legal step comes that its task may do
abbrev pub FindsStay : Type 0
FindsStay =
    (plan : Plan) (s : State) (t u w : ℕ) (x : Action) (find : Option Found) → MayDo (Some t) u x → IsLegal plan s u x → w ≢ t →
    StillAgrees s w find → StillAgrees (after s u x) w find

-- a find agrees with the state in which a holder of the lock loads it, and the state has the lock with its seat as before
abbrev pub LoadKeepsLock : Type 0
LoadKeepsLock =
    (plan : Plan) (t u : ℕ) (a : ℕ → Place) (lock : Option ℕ) (before now : SeenBy) → HasLockWith plan t a lock before →
    IsSeenAfterAwait true plan true u (await_word plan u (a u)) before now → StillAgrees (state_at plan a) u (now.found u) × HasLockWith plan t a lock now

-- Where the list is in hand in each lawful state that has the lock with the seat and is as far on as what it has seen, it decides on the await: the
-- task may publish it where it is not dead by the list, and refuse it where it is.
abbrev pub ListInHandAvoids : Type 0
ListInHandAvoids =
    (plan : Plan) (t : ℕ) (aim : Aim) (event : Event) (seen : SeenBy) (list : List Status) → IsCheckedPlan plan → HasAllFound plan t seen list →
    ((a : ℕ → Place) (lock : Option ℕ) → IsLawful true plan a lock → HasLockWith plan t a lock seen → IsAsFarOn plan (Some t) a seen →
    IsInHand plan a t aim event list) →
    ((IsDeadBy list t → ⊥) → AvoidsByWhatIsSeen plan t seen (Blocks aim))
    × (IsDeadBy list t → AvoidsByWhatIsSeen plan t seen (Refuses aim))
