-- A line by which one task comes into a closed set, and nobody else.
use Rattle.std.specs.Prelude.{◌≡◌, ℕ, true, false, ◌||◌, ◌==◌, List, Contains, filter, map}
use Rattle.monitor_laws.specs.States.{Participant, is_there_as}
use Rattle.monitor_search.specs.Known.{has_stuck_number, known_task}
use Rattle.monitor_search.specs.inside.Waits.{waits_inside}

-- u was not stuck, waits for somebody who may have stood in a closed set, or for itself, and nobody else needs it
pub record JoinsAlone (list : List Participant) (known : List (ℕ × List ℕ)) (u : Participant) : Type 0 where
  pub new : has_stuck_number known u.number ≡ false
  pub waits : waits_inside list known u u.condition ≡ true

-- of the list those who were stuck, and who has this number
abbrev pub known_with : List Participant → List (ℕ × List ℕ) → ℕ → List (ℕ × List ℕ)
known_with list known number = map known_task (filter (λ u. has_stuck_number known u.number || u.number == number) list)

-- who is there with the name t is such a task, and these are stuck with it
abbrev pub JoinsAloneBy : List Participant → List (ℕ × List ℕ) → List ℕ → List (ℕ × List ℕ) → Type 0
JoinsAloneBy list known t more =
    (u : Participant) × Contains list u × (is_there_as t u ≡ true) × JoinsAlone list known u × (more ≡ known_with list known u.number)
