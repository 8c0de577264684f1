-- What is proved of places.
use Rattle.std.specs.Prelude.{◌≡◌, ◌↔◌, ℕ, List, Some}
use Rattle.source_map.specs.calls.NamedPlaces.{NamesPlace}
use Rattle.source_map.specs.NamedPlaces.{named_in}

-- a line names just the place that is found in it
abbrev pub NamesAreFound : Type 0
NamesAreFound = (line : List ℕ) (from to : ℕ) → (named_in line ≡ Some (record { from = from; to = to })) ↔ NamesPlace line from to

-- a line names one place at most
abbrev pub NamesOnePlace : Type 0
NamesOnePlace = (line : List ℕ) (from to from' to' : ℕ) → NamesPlace line from to → NamesPlace line from' to' → (from ≡ from') × (to ≡ to')
