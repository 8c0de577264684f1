-- Why a task is stuck: the first of four reasons that is so.
use Rattle.std.specs.Prelude.{◌≡◌, ℕ, Bool, not, ◌&&◌, ◌||◌, Some, None, List, find}
use Rattle.monitor_laws.specs.States.{Condition, Participant, TraceState, is_live_task, is_live_wildcard}
use Rattle.monitor_words.specs.Stops.{IsCircle, IsFirstCircle, keeps_waiting, stops}

-- it stands in a circle with these others; an ended task keeps it waiting; a stuck task stops it; or somebody is missing
pub data StuckBecause : Type 0 where
  InCircle : (others : List Participant) → StuckBecause
  EndedKeeps : (u : Participant) → StuckBecause
  StuckStops : (u : Participant) → StuckBecause
  SomebodyMissing : StuckBecause

-- a task has ended, or a wildcard is gone
abbrev pub has_ended : Condition → Bool
has_ended condition = not (is_live_task condition || is_live_wildcard condition)

-- an ended task keeps f waiting
abbrev pub ended_keeps : Participant → Participant → Bool
ended_keeps f u = has_ended u.condition && keeps_waiting u f

-- no circle leads from f back to it
abbrev pub HasNoCircle : TraceState → (ℕ → Bool) → Participant → Type 0
HasNoCircle s stuck f = (others : List Participant) → IsCircle s stuck f others → ⊥

-- why f is stuck. Of the tasks that have ended, and of those that stop it, it is the first in the list
abbrev pub IsStuckBecause : TraceState → (ℕ → Bool) → Participant → StuckBecause → Type 0
IsStuckBecause s stuck f (InCircle others) = IsFirstCircle s stuck f others
IsStuckBecause s stuck f (EndedKeeps u) = HasNoCircle s stuck f × (find (ended_keeps f) s.list ≡ Some u)
IsStuckBecause s stuck f (StuckStops u) =
    HasNoCircle s stuck f × (find (ended_keeps f) s.list ≡ None) × (find (λ v. stops s stuck v f) s.list ≡ Some u)
IsStuckBecause s stuck f SomebodyMissing =
    HasNoCircle s stuck f × (find (ended_keeps f) s.list ≡ None) × (find (λ v. stops s stuck v f) s.list ≡ None)
