-- Snapshots: which loads a snap of a site makes, in order, and what the statuses that it finds tell.
use Rattle.std.specs.Prelude.{◌≡◌, ℕ, ◌+◌, ◌*◌, ◌<◌, ◌⊎◌, ◌↔◌, true, false, List, Option, Some, None, length}
use Rattle.armus_base.specs.declared.event.Event.{Event}
use Rattle.armus_base.specs.declared.status.Status.{Status}
use Rattle.armus_base.specs.Plans.{Plan}
use Rattle.armus_base.specs.States.{State}
use Rattle.armus_base.specs.Runs.{Place}
use Rattle.armus_base.specs.calls.Places.{phases_at_place}
use Rattle.armus_base.specs.Places.{published_after, state_at}
use Rattle.armus_base.specs.calls.Boards.{IsLawful}
use Rattle.armus_base.specs.Counts.{IsCount}
use Rattle.armus_base.specs.Deadlocks.{IsListedAt, IsListedOn}
use Rattle.armus_base.specs.calls.Decisions.{HasFound}
use Rattle.armus_base.specs.calls.Finals.{statuses_of}
use Rattle.armus_base.specs.calls.Seats.{IsAsFarOn, IsKnownDead}
use Rattle.board.specs.calls.Seats.{Known}
use Rattle.board.specs.calls.Views.{avoids, seen}
use Rattle.phase_scan.specs.calls.Collects.{LoadsChosen, LoadsRows}
use Rattle.phase_scan.specs.calls.Looks.{LoadsAlone}
use Rattle.sites.specs.calls.Rows.{AreOfSite, is_of_site}

-- A snap: first it loads the await words of the site's tasks, in order; then, for each task found waiting, in order, its phase words on all phasers,
-- in order. What it found at different moments is written as if it were one state, and the list has its statuses.
pub record IsSnap (plan : Plan) (sites site : ℕ) (list : List Status) (before now : Known) : Type 0 where
  pub found : State
  pub between : Known
  pub awaits : LoadsChosen (is_of_site sites site) found.published (length plan.parents) before between
  pub others : (t : ℕ) → is_of_site sites site t ≡ false → found.published t ≡ None
  pub rows : LoadsRows (length plan.makers) (λ p. true) found (length plan.parents) between now
  pub statuses : list ≡ statuses_of plan found

-- one load for each task of the site, and one for each status and each phaser
pub record CountsSnap (plan : Plan) (sites site : ℕ) (list : List Status) (before now : Known) : Type 0 where
  pub tasks : ℕ
  pub own : IsCount (λ t. t < length plan.parents × is_of_site sites site t ≡ true) tasks
  pub loads : now.view.loads ≡ before.view.loads + (tasks + length list * length plan.makers)

-- some lawful state is as far on as what a viewer has seen
pub record HasSeenLawful (k : Known) : Type 0 where
  pub places : ℕ → Place
  pub lock : Option ℕ
  pub lawful : IsLawful (avoids k.view.mode) k.view.plan places lock
  pub far : IsAsFarOn k.view.plan None places (seen k.view)

-- the viewer is as it was; or it has made loads alone, and some lawful state is as far on as what it has seen then
abbrev pub HasLookedOn : Known → Known → Type 0
HasLookedOn before now = (now ≡ before) ⊎ (LoadsAlone before now × HasSeenLawful now)

-- each task of the list was found waiting on its event at a place, and each of its phases at that place or later, all at or before these places
pub record IsBacked (plan : Plan) (list : List Status) (places : ℕ → Place) : Type 0 where
  pub at : ℕ → Place
  pub found : ℕ → ℕ → Place
  pub there : HasFound plan (λ t. Unit {0}) list at found places

-- this holds of the places of each lawful state that is as far on as what a viewer has seen
abbrev pub InEachPlaces : Known → ((ℕ → Place) → Type 0) → Type 0
InEachPlaces k Holds =
    (a : ℕ → Place) (lock : Option ℕ) → IsLawful (avoids k.view.mode) k.view.plan a lock → IsAsFarOn k.view.plan None a (seen k.view) → Holds a

-- a viewer knows that task t stands at this place
abbrev pub KnowsPlace : Known → ℕ → Place → Type 0
KnowsPlace k t place = InEachPlaces k (λ a. a t ≡ place)

-- the list has task t with this event, and of phases just those that it has at the place
pub record IsListedWhole (plan : Plan) (list : List Status) (t : ℕ) (place : Place) (e : Event) : Type 0 where
  pub listed : IsListedOn list t e
  pub phases : (p n : ℕ) → p < length plan.makers → phases_at_place plan t place p ≡ Some n ↔ IsListedAt list t p n

-- the list has task t with the event on which it is published in the state, and with just the phases that it has in it
abbrev pub IsListedWith : Plan → List Status → State → ℕ → Type 0
IsListedWith plan list s t =
    (e : Event) × s.published t ≡ Some e × IsListedOn list t e
    × ((p n : ℕ) → p < length plan.makers → s.phases t p ≡ Some n ↔ IsListedAt list t p n)

-- task t is dead in each lawful state as far on as what the viewer has seen
abbrev pub IsDeadToViewer : Known → ℕ → Type 0
IsDeadToViewer k t = IsKnownDead (avoids k.view.mode) k.view.plan None (seen k.view) t

-- What a snap tells. Its statuses are backed by what the viewer has seen after it. A task of the site that it does not list is not published at the
-- place seen of it after. A task of the site whose place the viewer knew before, published there, is listed with its event and all its phases; so
-- is one that it knew to be dead, as in each state that was possible then.
pub record TellsSite (plan : Plan) (sites site : ℕ) (list : List Status) (before now : Known) : Type 0 where
  pub backed : IsBacked plan list (seen now.view).places
  pub idle :
      (t : ℕ) → t < length plan.parents → is_of_site sites site t ≡ true → ((e : Event) → IsListedOn list t e → ⊥) →
      published_after plan t ((seen now.view).places t).done ≡ None
  pub waiting :
      (t : ℕ) (place : Place) (e : Event) → t < length plan.parents → is_of_site sites site t ≡ true → KnowsPlace before t place →
      published_after plan t place.done ≡ Some e → IsListedWhole plan list t place e
  pub dead :
      (t : ℕ) → t < length plan.parents → is_of_site sites site t ≡ true → IsDeadToViewer before t →
      InEachPlaces before (λ a. IsListedWith plan list (state_at plan a) t)

-- The statuses of a snap: those of its loads, of which it made so many. The site may store them, and they tell its tasks.
pub record IsSnapshot (plan : Plan) (sites site : ℕ) (list : List Status) (before now : Known) : Type 0 where
  pub snap : IsSnap plan sites site list before now
  pub loads : CountsSnap plan sites site list before now
  pub stored : AreOfSite sites site list
  pub tells : TellsSite plan sites site list before now
