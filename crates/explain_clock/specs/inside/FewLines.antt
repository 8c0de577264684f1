-- Lines of which the first three are written, one behind the other.
use Rattle.std.specs.Prelude.{◌≡◌, ℕ, ◌+◌, ◌-◌, ◌≤◌, List, ◌++◌, length, take}
use Rattle.std.specs.List.{flat_map}

-- those of these lines that are written behind so many others
abbrev pub written_of : ℕ → List (List ℕ) → List ℕ
written_of count lines = flat_map (λ (text : List ℕ). text) (take (3 - count) lines)

-- these lines were added to so many others, and are so many now
pub record AddsLines (count : ℕ) (lines : List (List ℕ)) (old new : List ℕ) (more : ℕ) : Type 0 where
  pub written : new ≡ old ++ written_of count lines
  pub counted : more ≡ count + length lines

-- of these lines, so many, the first ones are written behind what was there; they are at most as many as numbers were gone through
pub record AreWritten (lines : List (List ℕ)) (old new : List ℕ) (count passed : ℕ) : Type 0 where
  pub written : new ≡ old ++ written_of 0 lines
  pub counted : count ≡ length lines
  pub few : count ≤ passed
