-- Two worked decisions on a board that avoids deadlock, one for each answer, and what single loads tell there.
use Rattle.std.specs.Prelude.{◌≡◌, ℕ, ◌==◌, ◌↔◌, Bool, true, List, [], ◌∷◌, Some, None}
use Rattle.armus_base.specs.declared.event.Event.{Event}
use Rattle.armus_base.specs.declared.status.Status.{Status}
use Rattle.armus_base.specs.Plans.{Plan, Aim}
use Rattle.armus_base.specs.calls.Plans.{here}
use Rattle.armus_base.specs.States.{event_at, updated}
use Rattle.armus_base.specs.Runs.{Place, first_place, places}
use Rattle.armus_base.specs.Places.{state_at}
use Rattle.armus_base.specs.Deadlocks.{IsDeadBy, WouldBeDead}
use Rattle.armus_base.specs.Avoidance.{LeavesNobodyDead}
use Rattle.armus_base.specs.calls.Boards.{Entry, steps_of, holder, IsLawful}
use Rattle.armus_base.specs.calls.Seats.{SeenBy, Found, FoundIdle, FoundWaiting, FoundRefused, IsAsFarOn, HasLockWith, IsLongestPrefix, MayHold, await_word}
use Rattle.armus_base.specs.calls.Decisions.{HasAllFound, IsInHand}
use Rattle.armus_base.specs.calls.TwoTasks.{two_tasks, first_holds, second_holds}
use Rattle.armus_base.specs.calls.WorkedTexts.{at, status, two_tasks_end}

-- the places after these entries
abbrev pub places_after : List Entry → ℕ → Place
places_after entries = places (steps_of entries)

-- all that the law on the list in hand asks for, in the state after these entries
pub record IsReady (plan : Plan) (entries : List Entry) (t : ℕ) (aim : Aim) (event : Event) (seen : SeenBy) (list : List Status) : Type 0 where
  pub lawful : IsLawful true plan (places_after entries) (holder entries)
  pub with_lock : HasLockWith plan t (places_after entries) (holder entries) seen
  pub far : IsAsFarOn plan (Some t) (places_after entries) seen
  pub finds : HasAllFound plan t seen list
  pub in_hand : IsInHand plan (places_after entries) t aim event list

-- what the seat of task t has seen that has loaded the await word of task u and nothing else since it took the lock, and is where the state is
abbrev pub having_found : List Entry → ℕ → ℕ → Found → SeenBy
having_found entries t u find =
    record { places = places_after entries; exact = λ v. v == t; scanned = 0; found = updated (λ v. None) u (Some find) }

-- task 0 has blocked, and task 1 holds the lock: it would be dead
pub record DecidesDead : Type 0 where
  pub ready : IsReady two_tasks second_holds 1 (here 1) (event_at 1 1) (having_found second_holds 1 0 (FoundWaiting (event_at 0 1))) two_tasks_end.blocked
  pub by_list : IsDeadBy two_tasks_end.blocked 1
  pub would_be : WouldBeDead (state_at two_tasks (places_after second_holds)) 1 (event_at 1 1)

-- task 0 holds the lock, and nobody is published: its block leaves nobody dead
pub record DecidesAlive : Type 0 where
  pub ready : IsReady two_tasks first_holds 0 (here 0) (event_at 0 1) (having_found first_holds 0 1 FoundIdle) (status 0 0 1 (at 0 1 ∷ []) ∷ [])
  pub by_list : IsDeadBy (status 0 0 1 (at 0 1 ∷ []) ∷ []) 0 → ⊥
  pub nobody : LeavesNobodyDead (state_at two_tasks (places_after first_holds)) 0 (event_at 0 1)

-- from this place of the task a load with this meaning shows just that place
abbrev pub Shows : Bool → Plan → ℕ → (Place → Type 0) → Place → Place → Type 0
Shows avoids plan t Means before now = (place : Place) → IsLongestPrefix avoids plan t Means before place ↔ (place ≡ now)

-- A refused word shows the place just refused; a lock that is held by task 1 shows its place before the await; an idle word of a task that was seen
-- waiting shows that it has passed.
pub record WorkedLoads : Type 0 where
  pub refused :
      Shows true two_tasks 1 (λ b. await_word two_tasks 1 b ≡ FoundRefused (event_at 1 1)) first_place (record { done = 1; dropped = Some 0 })
  pub held : Shows true two_tasks 1 (MayHold two_tasks 1) first_place (record { done = 1; dropped = None })
  pub passed :
      Shows true two_tasks 1 (λ b. await_word two_tasks 1 b ≡ FoundIdle) (record { done = 2; dropped = None }) (record { done = 3; dropped = None })
