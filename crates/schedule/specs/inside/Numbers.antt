-- Words that may be numbers.
use Rattle.std.specs.Prelude.{◌≡◌, ◌≢◌, ℕ, ◌<◌, List, length, slice_index, ◌≤◌}
use Rattle.schedule.specs.declared.lines.TheConstants.{MOST_DIGITS}

-- bytes, not more than a task's number has digits, with neither a leading zero nor a sign
pub record MayBeNumber (bytes : List ℕ) : Type 0 where
  pub some : 0 < length bytes
  pub few : length bytes ≤ MOST_DIGITS
  pub no_zero : slice_index bytes 0 ≡ 48 → length bytes ≡ 1
  pub no_sign : slice_index bytes 0 ≢ 43
