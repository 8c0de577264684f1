-- What `read_all` and `write_text` leave, by what they answer.
use Rattle.std.specs.Prelude.{◌≤◌, ℕ, List, length, take, Option}
use Rattle.std.specs.Io.KnownBytes.{Consumes, Appends}

-- some first bytes of what was left have been read, of which P holds
abbrev pub ReadFront : Option (List ℕ) → Option (List ℕ) → (List ℕ → Type 0) → Type 0
ReadFront old new P = (bytes : List ℕ) × Consumes old new bytes × P bytes

-- some first bytes of the text were taken
abbrev pub TookFront : Option (List ℕ) → Option (List ℕ) → List ℕ → Type 0
TookFront old new text = (k : ℕ) × (k ≤ length text) × Appends old new (take k text)
