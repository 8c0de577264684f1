-- The line in which a place stands, and a caret below it.
use Rattle.std.specs.Prelude.{ℕ, ◌-◌, ◌==◌, Bool, ◌&&◌, ◌||◌, if◌then◌else◌, List, [], ◌++◌, length, take, map, reverse, codes, nat_le, nat_lt}
use Rattle.std.specs.List.{suffix_len}
use Rattle.pl_syntax.specs.Printed.{line}
use Rattle.source_map.specs.TextPlaces.{line_at, line_before}

-- the byte CR
abbrev pub is_return : ℕ → Bool
is_return b = b == 13

-- a line without the CRs at its end
abbrev pub without_returns : List ℕ → List ℕ
without_returns bytes = take (length bytes - suffix_len is_return bytes) bytes

-- a byte of a line as it is shown: ? for each byte below 32 but the tab, and for 127
abbrev pub shown_byte : ℕ → ℕ
shown_byte b = if b == 9 then b else (if nat_lt b 32 || b == 127 then 63 else b)

-- what stands below a byte that is before the place: a tab below a tab, and else a space
abbrev pub below_byte : ℕ → ℕ
below_byte b = if b == 9 then 9 else 32

-- how long a line is at most that is shown
abbrev pub max_line_bytes : ℕ
max_line_bytes = 200

-- a line is shown where it is not empty and not too long
abbrev pub is_shown : List ℕ → Bool
is_shown bytes = nat_le 1 (length bytes) && nat_le (length bytes) max_line_bytes

-- these bytes as a line, and the caret below the byte that so many bytes of the line, these, stand before
abbrev pub both_lines : List ℕ → List ℕ → List ℕ
both_lines bytes front =
    line (codes "    " ++ map shown_byte bytes) ++ line (codes "    " ++ map below_byte front ++ codes "^")

-- the line of a text in which byte `at` stands, and the caret below that byte
abbrev pub caret_lines : List ℕ → ℕ → List ℕ
caret_lines text at =
    if is_shown (without_returns (line_at text at)) then both_lines (without_returns (line_at text at)) (reverse (line_before text at)) else []
