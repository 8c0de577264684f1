-- Flags of tasks, and marks of blocks of flags.
use Rattle.std.specs.Prelude.{◌≡◌, ◌↔◌, ℕ, ◌<◌, ◌/◌, Bool, true, List, Some, slice_get}
use Rattle.pl_core.specs.calls.Worlds.{WorldValue, state_of}

-- flag t is set
abbrev pub IsSet : List Bool → ℕ → Type 0
IsSet flags t = slice_get flags t ≡ Some true

-- each block in which a flag is set has a mark
abbrev pub AreMarked : List Bool → List Bool → Type 0
AreMarked flags marks = (t : ℕ) → IsSet flags t → IsSet marks (t / 64)

-- flags of the tasks below n are set for those that are forked, and no other flag is
abbrev pub AreForked : WorldValue → ℕ → List Bool → Type 0
AreForked w n flags = (t : ℕ) → IsSet flags t ↔ ((t < n) × (state_of w).forked t ≡ true)
