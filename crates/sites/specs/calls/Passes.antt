-- Passes over all sites: each site puts what its viewer finds, and then the rows of all are checked. Whom such a pass names.
use Rattle.std.specs.Prelude.{◌≡◌, ℕ, ◌%◌, ◌⊎◌, Bool, true, List, Option, Some, None, Contains, length, slice_get}
use Rattle.armus_base.specs.declared.ids.TaskId.{TaskId}
use Rattle.armus_base.specs.declared.status.Status.{Status}
use Rattle.armus_base.specs.Plans.{Plan}
use Rattle.armus_base.specs.Runs.{Place}
use Rattle.armus_base.specs.Places.{state_at}
use Rattle.armus_base.specs.calls.Boards.{IsLawful}
use Rattle.armus_base.specs.Deadlocks.{IsAtPhase, IsDeadIn, IsDeadlockedSet, IsPublishedOn}
use Rattle.armus_base.specs.calls.Seats.{IsAsFarOn}
use Rattle.adaptive.specs.declared.analysis.Analysis.{Analysis}
use Rattle.adaptive.specs.declared.analysis.Wanted.{Wanted}
use Rattle.adaptive.specs.calls.Choice.{IsAnalysis}
use Rattle.board.specs.declared.mode.Mode.{Mode}
use Rattle.board.specs.calls.Seats.{Frame, IsOf, Known}
use Rattle.board.specs.calls.Views.{avoids, seen}
use Rattle.sites.specs.calls.Checks.{AreAll}
use Rattle.sites.specs.calls.Keeping.{held}
use Rattle.sites.specs.calls.Rows.{IsRowOf, row_bytes}
use Rattle.sites.specs.calls.Snaps.{HasLookedOn, InEachPlaces, IsBacked, IsSnapshot, KnowsPlace}

-- the site's viewer made a snap, and the row of its statuses is held
pub record HasSnapped (plan : Plan) (sites site : ℕ) (before now : Known) (row : Option (List ℕ)) : Type 0 where
  pub list : List Status
  pub snapshot : IsSnapshot plan sites site list before now
  pub put : row ≡ Some (row_bytes list)

-- the row stores statuses of the site that are backed by what this viewer has seen
abbrev pub IsBackedRow : Plan → ℕ → ℕ → List ℕ → Known → Type 0
IsBackedRow plan sites site row k = (ss : List Status) × IsRowOf sites site ss row × IsBacked plan ss (seen k.view).places

-- each row that is held stores statuses of its site that are backed by what the viewer of the site has seen
abbrev pub AreBacked : Plan → List (Option (List ℕ)) → List Known → Type 0
AreBacked plan rows views =
    (site : ℕ) (row : List ℕ) (k : Known) → slice_get views site ≡ Some k → held rows site ≡ Some row → IsBackedRow plan (length views) site row k

-- each viewer is one of the board, and has looked on, if it has done anything
pub record HaveLookedOn (board : Frame) (before now : List Known) : Type 0 where
  pub count : length now ≡ length before
  pub each : (site : ℕ) (k m : Known) → slice_get before site ≡ Some k → slice_get now site ≡ Some m → IsOf m board × HasLookedOn k m

-- each site's row is as before, or a new one that stores statuses which are backed by what the viewer of the site has seen
pub record ChangesRows (plan : Plan) (old new : List (Option (List ℕ))) (views : List Known) : Type 0 where
  pub sites : length new ≡ length old
  pub each :
      (site : ℕ) (k : Known) → slice_get views site ≡ Some k →
      (held new site ≡ held old site) ⊎ ((row : List ℕ) × held new site ≡ Some row × IsBackedRow plan (length views) site row k)

-- a set of tasks that is deadlocked in some lawful state, and of each of whose tasks the viewer of its site knows where it stands in that state
pub record IsSetKnown (plan : Plan) (mode : Mode) (views : List Known) (tasks : ℕ → Bool) : Type 0 where
  pub places : ℕ → Place
  pub lock : Option ℕ
  pub lawful : IsLawful (avoids mode) plan places lock
  pub deadlocked : IsDeadlockedSet (IsPublishedOn (state_at plan places)) (IsAtPhase (state_at plan places)) tasks
  pub known : (u : ℕ) (k : Known) → tasks u ≡ true → slice_get views (u % length views) ≡ Some k → KnowsPlace k u (places u)

-- each viewer knows the set of tasks to be deadlocked: it is in each lawful state as far on as what that viewer has seen
abbrev pub IsSetKnownToEach : Plan → List Known → (ℕ → Bool) → Type 0
IsSetKnownToEach plan views tasks =
    (k : Known) → Contains views k → InEachPlaces k (λ a. IsDeadlockedSet (IsPublishedOn (state_at plan a)) (IsAtPhase (state_at plan a)) tasks)

-- task t is dead in each lawful state that is as far on as what all viewers have seen
abbrev pub IsDeadToAll : Plan → Mode → List Known → ℕ → Type 0
IsDeadToAll plan mode views t =
    (a : ℕ → Place) (lock : Option ℕ) → IsLawful (avoids mode) plan a lock →
    ((k : Known) → Contains views k → IsAsFarOn plan None a (seen k.view)) → IsDeadIn (state_at plan a) t

-- A pass over all sites: each site has snapped, and all that the rows store was analysed together. Only such tasks are named as are dead in each lawful
-- state as far on as what all viewers have seen after it. All of each set are named that is deadlocked, and of each of whose tasks the viewer of its
-- site knew before where it stands; so are all of each set that each viewer knew before to be deadlocked.
pub record IsSitePass (plan : Plan) (mode : Mode) (wanted : Wanted) (before now : List Known) (rows : List (Option (List ℕ))) (a : Analysis) : Type 0 where
  pub snaps : (site : ℕ) (k m : Known) → slice_get before site ≡ Some k → slice_get now site ≡ Some m → HasSnapped plan (length before) site k m (held rows site)
  pub list : List Status
  pub all : AreAll (length before) rows list
  pub analysis : IsAnalysis list wanted a
  pub only : (t : TaskId) → Contains a.dead t → IsDeadToAll plan mode now t.0
  pub known : (tasks : ℕ → Bool) (t : TaskId) → IsSetKnown plan mode before tasks → tasks t.0 ≡ true → Contains a.dead t
  pub known_to_each : (tasks : ℕ → Bool) (t : TaskId) → IsSetKnownToEach plan before tasks → tasks t.0 ≡ true → Contains a.dead t
