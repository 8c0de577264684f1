-- Where a byte stands in a text.
use Rattle.std.specs.Prelude.{ℕ, ◌+◌, ◌-◌, Bool, not, ◌==◌, List, ◌++◌, length, take, drop, count_by, reverse, Option, Some, None}
use Rattle.std.specs.List.{take_while}
use Rattle.source_map.specs.declared.place.TextPlace.{TextPlace}
use Rattle.source_map.specs.declared.place.TextPlace.TheVariants.{Here, Elsewhere}
use Rattle.source_map.specs.declared.named.Span.{Span}
use Rattle.source_map.specs.NamedPlaces.{moved_span, named_in}

-- the byte that ends a line
abbrev pub is_line_feed : ℕ → Bool
is_line_feed b = b == 10

-- the bytes of its line that stand before this byte of a text, the last one first
abbrev pub line_before : List ℕ → ℕ → List ℕ
line_before text offset = take_while (λ b. not (is_line_feed b)) (reverse (take offset text))

-- the bytes of its line from this byte of a text on
abbrev pub line_from : List ℕ → ℕ → List ℕ
line_from text offset = take_while (λ b. not (is_line_feed b)) (drop offset text)

-- the line in which this byte of a text stands; the line feed that ends it is no part of it
abbrev pub line_at : List ℕ → ℕ → List ℕ
line_at text offset = reverse (line_before text offset) ++ line_from text offset

-- how many bytes of a text stand before the line of this byte
abbrev pub line_begin : List ℕ → ℕ → ℕ
line_begin text offset = length (take offset text) - length (line_before text offset)

-- the number of a byte's line, from 1
abbrev pub line_number : List ℕ → ℕ → ℕ
line_number text offset = count_by is_line_feed (take offset text) + 1

-- the number of a byte in its line, from 1
abbrev pub column_number : List ℕ → ℕ → ℕ
column_number text offset = length (line_before text offset) + 1

-- the place that the line names, or else this line and column
abbrev pub place_by : Option Span → ℕ → ℕ → TextPlace
place_by None line column = Here line column
place_by (Some s) line column = Elsewhere s.from s.to

-- where byte `offset` of a text stands; where the text has no such byte, its end
abbrev pub text_place : List ℕ → ℕ → TextPlace
text_place text offset =
    place_by (moved_span (line_begin text offset) (named_in (line_at text offset))) (line_number text offset) (column_number text offset)
