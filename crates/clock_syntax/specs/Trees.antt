-- Clock programs as trees: a list of statements, each with the statements after it.
use Rattle.std.specs.Prelude.{ℕ, ◌+◌, max, List}

-- a statement without a body; a name is its bytes
pub data ClockPlain : Type 0 where
  clock : List ℕ → ClockPlain
  advance : List ℕ → ClockPlain
  resume : List ℕ → ClockPlain
  drop : List ℕ → ClockPlain
  skip : ClockPlain

-- a list of statements: none, or one and those after it
pub data ClockTree : Type 0 where
  done : ClockTree
  plain : ClockPlain → ClockTree → ClockTree
  async : List (List ℕ) → ClockTree → ClockTree → ClockTree
  finish : ClockTree → ClockTree → ClockTree
  loop : ℕ → ClockTree → ClockTree → ClockTree

-- how many statements there are
abbrev pub clock_count : ClockTree → ℕ
clock_count done = 0
clock_count (plain s rest) = clock_count rest + 1
clock_count (async xs body rest) = clock_count body + clock_count rest + 1
clock_count (finish body rest) = clock_count body + clock_count rest + 1
clock_count (loop k body rest) = clock_count body + clock_count rest + 1

-- how deep the bodies nest
abbrev pub clock_height : ClockTree → ℕ
clock_height done = 0
clock_height (plain s rest) = clock_height rest
clock_height (async xs body rest) = max (clock_height body + 1) (clock_height rest)
clock_height (finish body rest) = max (clock_height body + 1) (clock_height rest)
clock_height (loop k body rest) = max (clock_height body + 1) (clock_height rest)
