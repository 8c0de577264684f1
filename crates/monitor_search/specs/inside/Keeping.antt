-- Lines of a task or wildcard by which nobody becomes stuck and nobody is stuck no longer.
use Rattle.std.specs.Prelude.{◌≡◌, ℕ, true, false, List, ◌⊎◌, Contains}
use Rattle.std.specs.List.{list_any}
use Rattle.monitor_laws.specs.States.{Participant, is_live_wildcard, is_there_as}
use Rattle.monitor_search.specs.Known.{has_stuck_number}
use Rattle.monitor_search.specs.inside.Leaving.{ends_quietly, frees_nobody, is_freed, is_surely_out}
use Rattle.monitor_search.specs.inside.Waits.{waits_unneeded}

-- u stands in no closed set, since it is freed or waits for those who are, or since it waits unneeded for those who stood in none
abbrev pub StaysOut : List Participant → List (ℕ × List ℕ) → Participant → Type 0
StaysOut list known u = (is_surely_out list u.condition ≡ true) ⊎ (waits_unneeded list known u u.condition ≡ true)

-- u was not stuck, stands in no closed set now, and frees nobody
pub record LeavesStuck (list : List Participant) (known : List (ℕ × List ℕ)) (u : Participant) : Type 0 where
  pub new : has_stuck_number known u.number ≡ false
  pub out : StaysOut list known u
  pub frees : frees_nobody list known u ≡ true

-- who is there with the name t after its line leaves all as they were; or nobody is there, and t has ended quietly
abbrev pub LeavesStuckBy : List Participant → List (ℕ × List ℕ) → List ℕ → Type 0
LeavesStuckBy list known t =
    ((u : Participant) × Contains list u × (is_there_as t u ≡ true) × LeavesStuck list known u)
    ⊎ ((list_any (is_there_as t) list ≡ false) × (ends_quietly list known t ≡ true))

-- who is there with the name t is a wildcard that somebody who runs may play
abbrev pub IsFreedWildcard : List Participant → List ℕ → Type 0
IsFreedWildcard list t =
    (u : Participant) × Contains list u × (is_there_as t u ≡ true) × (is_live_wildcard u.condition ≡ true) × (is_freed list u.condition ≡ true)
