-- What `read_all` and `write_text` leave, by what they answer.
use Rattle.std.specs.Prelude.{◌≡◌, ◌≤◌, ℕ, ◌+◌, List, length, Option, Result, Ok, Err}
use Rattle.std.specs.Io.KnownBytes.{Consumes, IsAtEnd}
use Rattle.armus_base.specs.Causes.{counted}
use Rattle.armus_base.specs.declared.errors.ReadEnd.{ReadEnd}
use Rattle.armus_base.specs.declared.errors.ReadEnd.TheVariants.{Fault, TooLong, NoMemory}
use Rattle.armus_base.specs.ReadAll.{ReadFront}

-- what stands after a read to the end, with a limit on the number of bytes
abbrev pub ReadsAll : Option (List ℕ) → Option (List ℕ) → ℕ → Result (List ℕ) ReadEnd → Type 0
ReadsAll old new limit (Ok bytes) = Consumes old new bytes × IsAtEnd new × (length bytes ≤ limit)
ReadsAll old new limit (Err Fault) = ReadFront old new (λ bytes. length bytes ≤ limit)
ReadsAll old new limit (Err TooLong) = ReadFront old new (λ bytes. length bytes ≡ limit + 1)
ReadsAll old new limit (Err NoMemory) = ReadFront old new (λ bytes. length bytes ≤ limit + 1)

-- a fault of the source is told at once, and nothing else raises its count
abbrev pub TellsFault : {T : Type 0} → ℕ → ℕ → Result T ReadEnd → Type 0
TellsFault before now (Err Fault) = now ≡ counted before
TellsFault before now result = now ≡ before
