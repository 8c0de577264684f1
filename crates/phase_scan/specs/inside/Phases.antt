-- One cell of the table of found phases.
use Rattle.std.specs.Prelude.{ℕ, List, Option, None, slice_index_or}

-- the phase that a column has for task t
abbrev pub phase_in : List (Option ℕ) → ℕ → Option ℕ
phase_in column t = slice_index_or column t None
