-- Offsets: how far from its own phase a task awaits.
use Rattle.std.specs.Prelude.{ℕ, ◌+◌, ◌-◌, ◌≤◌}
use Rattle.armus_base.specs.declared.offset.Offset.{Offset}
use Rattle.armus_base.specs.declared.offset.Offset.TheVariants.{Ahead, Back, Here}
use Rattle.armus_base.specs.Limits.{max_offset}

-- the phase that a member at phase m awaits with this offset; looking back ends at 0
abbrev pub target : Offset → ℕ → ℕ
target Here m = m
target (Back k) m = m - k
target (Ahead k) m = m + k

-- the offset is no greater than the numbers of a text
abbrev pub IsNear : Offset → Type 0
IsNear Here = Unit {0}
IsNear (Back k) = k ≤ max_offset
IsNear (Ahead k) = k ≤ max_offset
