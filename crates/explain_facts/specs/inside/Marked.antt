-- Marks of numbers.
use Rattle.std.specs.Prelude.{◌≡◌, ℕ, ◌<◌, ◌||◌, Bool, false, List, length, slice_index_or}

-- these are the marks from before, with those of each number for which the test holds
pub record HaveMarks (test : ℕ → Bool) (before after : List Bool) : Type 0 where
  pub sized : length after ≡ length before
  pub each : (q : ℕ) → q < length before → slice_index_or after q false ≡ (test q || slice_index_or before q false)
