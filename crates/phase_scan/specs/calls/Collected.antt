-- What the statuses of a collect tell, by what its seat had seen before it and what it has seen after it.
use Rattle.std.specs.Prelude.{◌≡◌, ℕ, ◌<◌, ◌↔◌, List, Option, Some, length}
use Rattle.armus_base.specs.declared.event.Event.{Event}
use Rattle.armus_base.specs.declared.status.Status.{Status}
use Rattle.armus_base.specs.States.{State}
use Rattle.armus_base.specs.calls.Runs.{IsPrefix}
use Rattle.armus_base.specs.Runs.{Place}
use Rattle.armus_base.specs.Places.{published_after, state_at}
use Rattle.armus_base.specs.calls.Boards.{IsLawful}
use Rattle.armus_base.specs.calls.Seats.{Found, FoundWaiting, IsAsFarOn, IsKnownDead, IsPlaceOf}
use Rattle.armus_base.specs.Statuses.{IsAwaited}
use Rattle.armus_base.specs.calls.Decisions.{HasFound}
use Rattle.armus_base.specs.Deadlocks.{IsListedAt, IsListedOn}
use Rattle.board.specs.calls.Views.{avoids, seen}
use Rattle.board.specs.calls.Seats.{Known}
use Rattle.phase_scan.specs.calls.Looks.{InEachLawful}

-- of the phases of task t on the phasers that are awaited in the list, the list has just those that it has in the state
abbrev pub HasItsPhases : List Status → State → ℕ → Type 0
HasItsPhases list s t = (e : Event) (n : ℕ) → IsAwaited list e → s.phases t e.p.0 ≡ Some n ↔ IsListedAt list t e.p.0 n

-- the list has task t as it is in the state: with the event on which it is published, and with its phases
abbrev pub IsListedAsIn : List Status → State → ℕ → Type 0
IsListedAsIn list s t = (e : Event) × s.published t ≡ Some e × IsListedOn list t e × HasItsPhases list s t

-- the task is dead in every lawful state as far on as what the seat has seen
abbrev pub IsKnownDeadBy : Known → ℕ → Type 0
IsKnownDeadBy seat t = IsKnownDead (avoids seat.view.mode) seat.view.plan seat.view.own (seen seat.view) t

-- Each task was found waiting at a place between those seen of it before and after, and each of its phases at a place from there up to the one seen
-- after. In a lawful state as far on in which it stands where it was found waiting, it has just the phases that were found. Who was known to be dead
-- before is listed as in each state that was possible then. Who is published at the place seen of it after is listed.
pub record IsCollected (list : List Status) (before now : Known) : Type 0 where
  pub at : ℕ → Place
  pub found : ℕ → ℕ → Place
  pub places : HasFound before.view.plan (λ t. Unit {0}) list at found (seen now.view).places
  pub since :
      (t : ℕ) (e : Event) → IsListedOn list t e →
      IsPlaceOf (avoids before.view.mode) before.view.plan t (at t) × IsPrefix ((seen before.view).places t) (at t)
  pub exact :
      (a : ℕ → Place) (lock : Option ℕ) → IsLawful (avoids before.view.mode) before.view.plan a lock →
      IsAsFarOn before.view.plan before.view.own a (seen now.view) → (t : ℕ) (e : Event) → IsListedOn list t e → a t ≡ at t →
      HasItsPhases list (state_at before.view.plan a) t
  pub dead : (t : ℕ) → IsKnownDeadBy before t → InEachLawful before (λ s. IsListedAsIn list s t)
  pub published :
      (t : ℕ) (e : Event) → published_after before.view.plan t ((seen now.view).places t).done ≡ Some e → (f : Event) × IsListedOn list t f

-- the seat has found each task, and just those on an event whose statuses the list has
abbrev pub HasFinds : List Status → Known → Type 0
HasFinds list seat =
    (u : ℕ) → u < length seat.view.plan.parents →
    (f : Found) × (seen seat.view).found u ≡ Some f × ((e : Event) → f ≡ FoundWaiting e ↔ IsListedOn list u e)
