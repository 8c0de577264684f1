-- What the search for an op's statement gives.
use Rattle.std.specs.Prelude.{◌≡◌, ℕ, ◌+◌, ◌*◌, ◌<◌, ◌≤◌, List, length, Option, None, Some}
use Rattle.std.specs.List.{slice_get}
use Rattle.source_map.specs.declared.seeking.Sought.{Sought}
use Rattle.source_map.specs.declared.seeking.Sought.TheVariants.{Found, Left}

-- the number at place i of the list; or the list is no longer than that, and so many places are left behind it
abbrev pub IsSought : List ℕ → ℕ → Sought → Type 0
IsSought ns i (Found n) = slice_get ns i ≡ Some n
IsSought ns i (Left left) = i ≡ length ns + left

-- op i of k turns that make m ops each: in which turn it is, from 0, and which op of the turn; or the turns make fewer ops
abbrev pub IsInTurn : ℕ → ℕ → ℕ → Option (ℕ × ℕ) → Type 0
IsInTurn k m i None = k * m ≤ i
IsInTurn k m i (Some (turn, inner)) = (turn < k) × (inner < m) × (i ≡ turn * m + inner)
