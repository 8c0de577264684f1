-- The ending of a name.
use Rattle.std.specs.Prelude.{ℕ, ◌-◌, if◌then◌else◌, List, drop, length, nat_lt}
use Rattle.std.specs.Int.{w32, from_le_bytes}

-- its last four bytes as a number, 0 of a shorter name
abbrev pub name_ending : List ℕ → ℕ
name_ending p = if nat_lt (length p) 4 then 0 else from_le_bytes w32 (drop (length p - 4) p)
