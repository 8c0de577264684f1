-- Words of bits, 64 to each, and the tasks whose bits are set.
use Rattle.std.specs.Prelude.{◌≡◌, ◌≢◌, ℕ, ◌/◌, ◌%◌, ◌*◌, ◌-◌, List, Option, None, Some, length, min, slice_index, if◌then◌else◌, ◌==◌}
use Rattle.std.specs.Int.{bit_at}
use Rattle.armus_base.specs.Finals.{given_below}
use Rattle.armus_base.specs.declared.ids.TaskId.{TaskId}

-- bit n, 0 or 1; behind the words all bits are 0
abbrev pub bit_of : List ℕ → ℕ → ℕ
bit_of words n = bit_at (slice_index words (n / 64)) (n % 64)

-- task n, where its bit is 1
abbrev pub task_if : ℕ → ℕ → Option TaskId
task_if bit n = if bit == 1 then Some (record { 0 = n }) else None

-- the tasks below a number whose bits are 1, in order of number
abbrev pub tasks_by : (ℕ → ℕ) → ℕ → List TaskId
tasks_by bits n = given_below (λ k. task_if (bits k) k) n

-- the tasks whose bits are 1
abbrev pub tasks_by_bits : List ℕ → List TaskId
tasks_by_bits words = tasks_by (bit_of words) (64 * length words)

-- a bit that is 1 in the first words and 0 in the others
abbrev pub bit_less : List ℕ → List ℕ → ℕ → ℕ
bit_less words other n = min (bit_of words n) (1 - bit_of other n)

-- bit n is changed, and no other
pub record IsWithBit (old : List ℕ) (n bit : ℕ) (new : List ℕ) : Type 0 where
  pub sized : length new ≡ length old
  pub here : bit_of new n ≡ bit
  pub others : (m : ℕ) → m ≢ n → bit_of new m ≡ bit_of old m
