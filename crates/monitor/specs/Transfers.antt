-- What passes between the monitor and the outside: one list of what was read and what was written, the last first.
use Rattle.std.specs.Prelude.{◌≡◌, ℕ, Option, List, [], ◌∷◌, ◌++◌, take, Result, MatchResult}
use Rattle.std.specs.Io.KnownBytes.{Appends, Consumes}
use Rattle.std.specs.Option.{option_map}

-- bytes that were read, none at the end of the trace, or bytes that were written
pub data Transfer : Type 0 where
  WereRead : (bytes : List ℕ) → Transfer
  WereWritten : (bytes : List ℕ) → Transfer

-- all bytes that were read, in order
abbrev pub bytes_read : List Transfer → List ℕ
bytes_read [] = []
bytes_read (WereRead bytes ∷ log) = bytes_read log ++ bytes
bytes_read (WereWritten bytes ∷ log) = bytes_read log

-- all bytes that were written, in order
abbrev pub bytes_written : List Transfer → List ℕ
bytes_written [] = []
bytes_written (WereRead bytes ∷ log) = bytes_written log
bytes_written (WereWritten bytes ∷ log) = bytes_written log ++ bytes

-- nothing was read
abbrev pub AreWrites : List Transfer → Type 0
AreWrites [] = Unit {0}
AreWrites (WereRead bytes ∷ log) = ⊥
AreWrites (WereWritten bytes ∷ log) = AreWrites log

-- no end of the trace was read
abbrev pub HasReadNoEnd : List Transfer → Type 0
HasReadNoEnd [] = Unit {0}
HasReadNoEnd (WereRead [] ∷ log) = ⊥
HasReadNoEnd (WereRead (b ∷ bytes) ∷ log) = HasReadNoEnd log
HasReadNoEnd (WereWritten bytes ∷ log) = HasReadNoEnd log

-- the end of the trace was read, once, and then nothing more
abbrev pub IsReadToEnd : List Transfer → Type 0
IsReadToEnd log = (later : List Transfer) × (before : List Transfer) × AreWrites later × (log ≡ later ++ WereRead [] ∷ before)

-- what a port tells of itself, where it does: the list of what was read and written, the bytes that are left to be read, and those that were taken
pub record PortView : Type 0 where
  pub log : Option (List Transfer)
  pub left : Option (List ℕ)
  pub taken : Option (List ℕ)

-- where a list is told, this stands in front of it now
abbrev pub LogGrows : Option (List Transfer) → Option (List Transfer) → List Transfer → Type 0
LogGrows old new more = new ≡ option_map (λ log. more ++ log) old

-- this passed through the port
pub record PassesThrough (old new : PortView) (more : List Transfer) : Type 0 where
  pub log : LogGrows old.log new.log more
  pub left : Consumes old.left new.left (bytes_read more)
  pub taken : Appends old.taken new.taken (bytes_written more)

-- by a read the bytes passed that it gave, and nothing where it failed
abbrev pub PassesRead : {E : Type 0} → PortView → PortView → Result ℕ E → List ℕ → Type 0
PassesRead old new result buffer = MatchResult result (λ n. PassesThrough old new (WereRead (take n buffer) ∷ [])) (λ e. PassesThrough old new [])

-- by a write the bytes passed that it took, and nothing where it failed
abbrev pub PassesWrite : {E : Type 0} → PortView → PortView → Result ℕ E → List ℕ → Type 0
PassesWrite old new result piece = MatchResult result (λ n. PassesThrough old new (WereWritten (take n piece) ∷ [])) (λ e. PassesThrough old new [])
