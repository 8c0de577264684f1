-- When a fault may be answered: only where the object that was handed in counted one in the call.
use Rattle.std.specs.Prelude.{ℕ, ◌+◌, ◌-◌, ◌^◌, ◌≤◌, min}

-- one more, up to the end of a u64
abbrev pub counted : ℕ → ℕ
counted n = min (n + 1) (2 ^ 64 - 1)

-- the count has risen, or stands at the end of its type
abbrev pub Rose : ℕ → ℕ → Type 0
Rose before now = counted before ≤ now
