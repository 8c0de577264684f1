-- The tasks that may play a wildcard.
use Rattle.std.specs.Prelude.{◌≡◌, ℕ, ◌<◌, Bool, true, ◌&&◌, ◌⊎◌, List, [], ◌∷◌, Contains, bytes_eq, filter, map}
use Rattle.std.specs.List.{list_any}
use Rattle.monitor_laws.specs.States.{Participant, is_live_task}

-- a task that is there with one of the names
abbrev pub is_player : List (List ℕ) → Participant → Bool
is_player names u = is_live_task u.condition && list_any (λ t. bytes_eq t u.name) names

-- how many were named before
abbrev pub participant_number : Participant → ℕ
participant_number u = u.number

-- each is greater than those before it
abbrev pub NumbersClimb : List ℕ → Type 0
NumbersClimb [] = Unit {0}
NumbersClimb (n ∷ ns) = ((m : ℕ) → Contains ns m → n < m) × NumbersClimb ns

-- the numbers so far are of players, and a player is one of them or has one of the names that are left
pub record AreNumbersSoFar (us : List Participant) (names left : List (List ℕ)) (numbers : List ℕ) : Type 0 where
  pub climb : NumbersClimb numbers
  pub known : (n : ℕ) → Contains numbers n → Contains (map participant_number (filter (is_player names) us)) n
  pub rest : (u : Participant) → Contains us u → is_player names u ≡ true → Contains numbers u.number ⊎ (list_any (λ t. bytes_eq t u.name) left ≡ true)
  pub part : (test : List ℕ → Bool) → list_any test left ≡ true → list_any test names ≡ true
