-- Which commands wait for threads.
use Rattle.std.specs.Prelude.{◌≡◌, ◌⊎◌, ◌∷◌, List}
use Rattle.command_line.specs.declared.table.TheConstants.{POOL, RECORD}
use Rattle.program_io.specs.Texts.{Text}

-- the first word is `record` or `pool`, whose commands wait for threads
abbrev pub BeginsRecordOrPool : List Text → Type 0
BeginsRecordOrPool words = (first : Text) × (rest : List Text) × (words ≡ first ∷ rest) × ((first ≡ RECORD.now) ⊎ (first ≡ POOL.now))
