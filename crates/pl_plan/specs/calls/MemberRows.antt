-- On which phasers somebody is a member, as a row of tests by number.
use Rattle.std.specs.Prelude.{ℕ, ◌+◌, ◌-◌, Bool, false, List, ◌++◌, length, replicate, slice_set}

-- a list of at least n tests
abbrev pub lengthened : ℕ → List Bool → List Bool
lengthened n row = row ++ replicate (n - length row) false

-- whether a task is a member of phaser p
abbrev pub marked : ℕ → Bool → List Bool → List Bool
marked p v row = slice_set (lengthened (p + 1) row) p v
