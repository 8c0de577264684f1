-- Where statements stand, by their numbers.
use Rattle.std.specs.Prelude.{ℕ, ◌-◌, ◌==◌, if◌then◌else◌, List, slice_index_or}
use Rattle.source_map.specs.TextPlaces.{text_place}
use Rattle.source_map.specs.declared.place.TextPlace.{TextPlace}

-- how many bytes stand before statement n, by the offsets of all; and before the end of the text for 0
abbrev pub statement_offset : List ℕ → ℕ → ℕ → ℕ
statement_offset offsets end n = if n == 0 then end else slice_index_or offsets (n - 1) end

-- the place of that byte
abbrev pub place_of_statement : List ℕ → List ℕ → ℕ → ℕ → TextPlace
place_of_statement text offsets end n = text_place text (statement_offset offsets end n)
