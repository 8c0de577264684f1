-- How places are written.
use Rattle.std.specs.Prelude.{ℕ, ◌-◌, List, [], ◌++◌, take, drop, codes, decimal, Option, Some, None}
use Rattle.source_map.specs.declared.place.TextPlace.{TextPlace}
use Rattle.source_map.specs.declared.place.TextPlace.TheVariants.{Here, Elsewhere}

-- a place of a text: 20:7, or the name of a place of another program
abbrev pub place_words : List ℕ → TextPlace → List ℕ
place_words text (Here line column) = decimal line ++ codes ":" ++ decimal column
place_words text (Elsewhere from to) = take (to - from) (drop from text)

-- what stands before a front place: the name of the file and a colon, where there is a file and the place is one of it
abbrev pub file_words : Option (List ℕ) → TextPlace → List ℕ
file_words (Some file) (Here line column) = file ++ codes ":"
file_words (Some file) (Elsewhere from to) = []
file_words None place = []

-- a place with which a line of output begins: k.pl:20:7
abbrev pub front_words : List ℕ → Option (List ℕ) → TextPlace → List ℕ
front_words text file place = file_words file place ++ place_words text place
