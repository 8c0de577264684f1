-- The table of the lines of a text.
use Rattle.std.specs.Prelude.{ℕ, zero, suc, ◌+◌, List, length, count_by}
use Rattle.armus_base.specs.Finals.{list_below}
use Rattle.source_map.specs.NamedPlaces.{moved_span, named_in}
use Rattle.source_map.specs.TextPlaces.{is_line_feed, line_from}
use Rattle.source_map.specs.declared.places.TextLine.{TextLine}

-- how many bytes stand before line i, counted from 0
abbrev pub begin_of : List ℕ → ℕ → ℕ
begin_of text zero = 0
begin_of text (suc i) = begin_of text i + length (line_from text (begin_of text i)) + 1

-- how many lines a text has: one more than it has line feeds
abbrev pub line_count : List ℕ → ℕ
line_count text = count_by is_line_feed text + 1

-- line i: where it begins, and the place that it names
abbrev pub line_row : List ℕ → ℕ → TextLine
line_row text i = record { begin = begin_of text i; named = moved_span (begin_of text i) (named_in (line_from text (begin_of text i))) }

-- all lines
abbrev pub line_rows : List ℕ → List TextLine
line_rows text = list_below (line_row text) (line_count text)
