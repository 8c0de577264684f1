-- A list parted into those who may still stand in a closed set and those who stand in none.
use Rattle.std.specs.Prelude.{◌≡◌, ℕ, Bool, true, false, not, ◌&&◌, ◌==◌, ◌⊎◌, List, Contains, filter, map}
use Rattle.std.specs.Borrow.{Bor}
use Rattle.std.specs.List.{list_any}
use Rattle.monitor_laws.specs.States.{Condition, Running, Waiting, Ended, AnyTask, OneOf, Participant, TraceState, is_live_task}
use Rattle.monitor_laws.specs.Stuck.{IsClosedSet, has_phase_below}

-- those to whom these references lead
abbrev pub referred : List (Bor Participant) → List Participant
referred references = map (λ reference. reference.now) references

-- a task that has not ended and may play a wildcard of these tasks
abbrev pub plays_one_of : List ℕ → Participant → Bool
plays_one_of tasks u = is_live_task u.condition && list_any (λ k. k == u.number) tasks

-- those inside keep whoever is in this condition, where the others stand outside
abbrev pub is_kept_by : List Participant → List Participant → Condition → Bool
is_kept_by inside outside Running = false
is_kept_by inside outside (Waiting p n) = list_any (λ u. has_phase_below u p n) inside
is_kept_by inside outside Ended = true
is_kept_by inside outside AnyTask = not (list_any (λ u. is_live_task u.condition) outside)
is_kept_by inside outside (OneOf names tasks) = not (list_any (plays_one_of tasks) outside)

-- those inside are some of the list in its order, all others are outside, and none of these stands in a closed set
pub record IsParting (s : TraceState) (inside outside : List Participant) : Type 0 where
  pub chosen : (test : Participant → Bool) × (inside ≡ filter test s.list)
  pub listed : (u : Participant) → Contains outside u → Contains s.list u
  pub covered : (u : Participant) → Contains s.list u → Contains inside u ⊎ Contains outside u
  pub out : (set : ℕ → Bool) → IsClosedSet s set → (u : Participant) → Contains outside u → set u.number ≡ false

-- those inside keep each of them
abbrev pub AreAllKept : List Participant → List Participant → Type 0
AreAllKept inside outside = (u : Participant) → Contains inside u → is_kept_by inside outside u.condition ≡ true
