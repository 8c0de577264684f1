-- The order of known tasks and of the list, and where in it a number would stand.
use Rattle.std.specs.Prelude.{◌≡◌, ◌<◌, ◌≤◌, ℕ, List, length, slice_index_or}
use Rattle.std.specs.List.Sorted.{IsNonDecreasingBy}
use Rattle.monitor_laws.specs.States.{Participant}

-- the numbers of known tasks never fall
abbrev pub NeverFall : List (ℕ × List ℕ) → Type 0
NeverFall known = IsNonDecreasingBy (λ (t : ℕ × List ℕ). t.0) known

-- the tasks ahead of this place have lower numbers, and those from it on have not
pub record IsPlaceOfNumber (known : List (ℕ × List ℕ)) (number at : ℕ) : Type 0 where
  pub inside : at ≤ length known
  pub ahead : (k : ℕ) (t : ℕ × List ℕ) → k < at → (slice_index_or known k t).0 < number
  pub from : (k : ℕ) (t : ℕ × List ℕ) → at ≤ k → k < length known → number ≤ (slice_index_or known k t).0

-- a task with this number stands at this place
abbrev pub HasNumberAt : List (ℕ × List ℕ) → ℕ → ℕ → Type 0
HasNumberAt known number at = (at < length known) × ((t : ℕ × List ℕ) → (slice_index_or known at t).0 ≡ number)

-- those of the list ahead of this place have lower numbers, and those from it on have not
pub record IsFirstListed (list : List Participant) (number at : ℕ) : Type 0 where
  pub inside : at ≤ length list
  pub ahead : (k : ℕ) (u : Participant) → k < at → (slice_index_or list k u).number < number
  pub from : (k : ℕ) (u : Participant) → at ≤ k → k < length list → number ≤ (slice_index_or list k u).number
