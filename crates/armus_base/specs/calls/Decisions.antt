-- Decisions: what a list of statuses must have, so that it tells whether an await would be dead.
use Rattle.std.specs.Prelude.{◌≡◌, ◌≢◌, ℕ, ◌<◌, List, Some, IsSome, length}
use Rattle.armus_base.specs.declared.event.Event.{Event}
use Rattle.armus_base.specs.declared.status.Status.{Status}
use Rattle.armus_base.specs.Plans.{Plan, Aim, Blocks, action_at}
use Rattle.armus_base.specs.States.{State, IsActive, awaited}
use Rattle.armus_base.specs.Runs.{Place}
use Rattle.armus_base.specs.calls.Runs.{IsPrefix}
use Rattle.armus_base.specs.calls.Places.{phases_at_place}
use Rattle.armus_base.specs.Places.{published_after, state_at}
use Rattle.armus_base.specs.calls.Seats.{SeenBy, FoundWaiting}
use Rattle.armus_base.specs.Deadlocks.{IsListedOn, IsListedAt, IsDeadBy, NobodyDead, WouldBeDead}

-- Of these tasks of the list each was found waiting at a place, and each of its phases was found at that place or later. All these places are
-- prefixes of where the tasks are now.
pub record HasFound (plan : Plan) (IsOne : ℕ → Type 0) (list : List Status) (at : ℕ → Place) (found : ℕ → ℕ → Place) (now : ℕ → Place) : Type 0 where
  pub waiting : (u : ℕ) (e : Event) → IsOne u → IsListedOn list u e → published_after plan u (at u).done ≡ Some e
  pub before : (u : ℕ) (e : Event) → IsOne u → IsListedOn list u e → IsPrefix (at u) (now u)
  pub phases :
      (u p n : ℕ) → IsOne u → IsListedAt list u p n → IsPrefix (at u) (found u p) × phases_at_place plan u (found u p) p ≡ Some n
  pub phases_before : (u p n : ℕ) → IsOne u → IsListedAt list u p n → IsPrefix (found u p) (now u)

-- in a state in which the tasks stand at these places, task t stands before an await with this aim, which is then of this event
pub record StandsBefore (plan : Plan) (s : State) (now : ℕ → Place) (t : ℕ) (aim : Aim) (event : Event) : Type 0 where
  pub active : IsActive s t
  pub next : action_at plan t (now t).done ≡ Some (Blocks aim)
  pub awaits : awaited (Some (Blocks aim)) (s.phases t) ≡ Some event

-- the list has task t with the event, and of its phases just those that it has, each on an awaited phaser at least
pub record HasOwnStatus (s : State) (t : ℕ) (event : Event) (list : List Status) : Type 0 where
  pub listed : IsListedOn list t event
  pub only : (e : Event) → IsListedOn list t e → e ≡ event
  pub phases : (p n : ℕ) → IsListedAt list t p n → s.phases t p ≡ Some n
  pub all : (u n : ℕ) (e : Event) → IsListedOn list u e → s.phases t e.p.0 ≡ Some n → IsListedAt list t e.p.0 n

-- The list has of each of its other tasks what was found, and where such a task still stands at the place at which it was found waiting, all
-- its phases on awaited phasers.
pub record HasOtherStatuses (plan : Plan) (s : State) (now : ℕ → Place) (t : ℕ) (list : List Status) : Type 0 where
  pub at : ℕ → Place
  pub found : ℕ → ℕ → Place
  pub found_there : HasFound plan (λ u. u ≢ t) list at found now
  pub all :
      (u v n : ℕ) (e f : Event) → u ≢ t → IsListedOn list u f → now u ≡ at u → IsListedOn list v e → s.phases u e.p.0 ≡ Some n →
      IsListedAt list u e.p.0 n

-- Where nobody is dead, and task t stands before an await of the event, the list has its status, that of each published task, and of each other
-- what was found.
pub record IsEnoughToDecide (plan : Plan) (s : State) (now : ℕ → Place) (t : ℕ) (event : Event) (list : List Status) : Type 0 where
  pub nobody : NobodyDead s
  pub aim : Aim
  pub stands : StandsBefore plan s now t aim event
  pub own : HasOwnStatus s t event list
  pub all_published : (u : ℕ) (e : Event) → s.published u ≡ Some e → IsListedOn list u e
  pub others : HasOtherStatuses plan s now t list

-- task t stands before an await of the event, and the list has its status and of each other what was found
pub record IsInHand (plan : Plan) (now : ℕ → Place) (t : ℕ) (aim : Aim) (event : Event) (list : List Status) : Type 0 where
  pub stands : StandsBefore plan (state_at plan now) now t aim event
  pub own : HasOwnStatus (state_at plan now) t event list
  pub others : HasOtherStatuses plan (state_at plan now) now t list

-- the list tells whether t would be dead; where t is not dead by it, nobody is; and each other task that is dead by it is published
pub record Decides (s : State) (t : ℕ) (event : Event) (list : List Status) : Type 0 where
  pub refuses : IsDeadBy list t → WouldBeDead s t event
  pub misses_none : WouldBeDead s t event → IsDeadBy list t
  pub blocks : (IsDeadBy list t → ⊥) → (u : ℕ) → IsDeadBy list u → ⊥
  pub others : (u : ℕ) (e : Event) → u ≢ t → IsDeadBy list u → IsListedOn list u e → s.published u ≡ Some e

-- the seat of task t has found all other tasks, and the list has each that was found waiting
pub record HasAllFound (plan : Plan) (t : ℕ) (seen : SeenBy) (list : List Status) : Type 0 where
  pub all : (u : ℕ) → u < length plan.parents → u ≢ t → IsSome (seen.found u)
  pub listed : (u : ℕ) (e : Event) → u < length plan.parents → u ≢ t → seen.found u ≡ Some (FoundWaiting e) → IsListedOn list u e
