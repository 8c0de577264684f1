-- The passage of an object of the outside.
use Rattle.std.specs.Prelude.{ℕ, Option}
use Rattle.program_io.specs.Passages.{Passage}
use Rattle.program_io.specs.Texts.{Text}

-- the passage of an object of the outside, by its two meanings
abbrev pub passage : {D : Type 0} → (D → Option Text) → (D → ℕ) → D → D → Passage
passage bytes faults old new = record {
  before = bytes old;
  after = bytes new;
  faults_before = faults old;
  faults_after = faults new;
}
