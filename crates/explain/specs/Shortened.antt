-- How much of an explanation is shown.
use Rattle.std.specs.Prelude.{◌≡◌, ℕ, zero, suc, ◌-◌, ◌==◌, ◌&&◌, not, Bool, false, [], ◌∷◌, ◌++◌, codes, count_by, decimal, drop, eqb, if◌then◌else◌, length, nat_lt, slice_index, take}
use Rattle.std.specs.List.{starts_with}
use Rattle.pl_syntax.specs.Printed.{line}
use Rattle.source_map.specs.TextPlaces.{is_line_feed}
use Rattle.program_io.specs.Texts.{Text}
use Rattle.explain.specs.declared.extent.Extent.{Extent}
use Rattle.explain.specs.declared.extent.Extent.TheVariants.{Whole, Usual, Short}

-- how many lines these bytes have, of which each ends with a line feed
abbrev pub line_total : Text → ℕ
line_total text = count_by is_line_feed text

-- a paragraph ends with the first k bytes: the last of them ends a line, and the next line does not begin with a blank
abbrev pub ends_paragraph : Text → ℕ → Bool
ends_paragraph text zero = false
ends_paragraph text (suc k) = is_line_feed (slice_index text k) && not (slice_index text (suc k) == 32)

-- the first k bytes are whole paragraphs, which have fewer lines than there is room for
abbrev pub are_few_paragraphs : ℕ → Text → ℕ → Bool
are_few_paragraphs room text k = ends_paragraph text k && nat_lt (line_total (take k text)) room

-- the greatest number up to n that passes this test, or 0 where none does
abbrev pub last_passing : (ℕ → Bool) → ℕ → ℕ
last_passing test zero = 0
last_passing test (suc n) = if test (suc n) then suc n else last_passing test n

-- how many bytes are shown of the paragraphs of a long explanation: as many whole ones as have fewer lines than there is room for
abbrev pub displayed_bytes : ℕ → Text → ℕ
displayed_bytes room text = last_passing (are_few_paragraphs room text) (length text)

-- the line that counts the lines that are left out
abbrev pub left_out_line : ℕ → Text
left_out_line count = line (codes "and " ++ decimal count ++ codes " more lines: --all shows them")

-- paragraphs up to their byte k, and how many lines of them are left out
abbrev pub displayed_up_to : ℕ → Text → Text
displayed_up_to k text = take k text ++ left_out_line (line_total (drop k text))

-- ---- the hint

-- a line begins behind the first k bytes: the last of them ends a line, and something follows
abbrev pub begins_line : Text → ℕ → Bool
begins_line text zero = false
begins_line text (suc k) = is_line_feed (slice_index text k) && nat_lt (suc k) (length text)

-- how many bytes stand before the last line
abbrev pub last_line_begin : Text → ℕ
last_line_begin text = last_passing (begins_line text) (length text)

-- a line that begins as a hint does
abbrev pub is_hint : Text → Bool
is_hint text = starts_with eqb text (codes "hint: ") && nat_lt (line_total text) 2

-- how many bytes of an explanation are its paragraphs: all but the last line, where this is a hint and not the only one
abbrev pub paragraph_bytes : Text → ℕ
paragraph_bytes whole =
    if is_hint (drop (last_line_begin whole) whole) && nat_lt 0 (last_line_begin whole) then last_line_begin whole else length whole

-- ---- the whole

-- what is shown of a long explanation with these paragraphs and this hint, if it has one: the first paragraphs, how many lines are left out, and the hint
abbrev pub shortened_to : Text → Text → Text
shortened_to paragraphs hint = displayed_up_to (displayed_bytes (60 - line_total hint) paragraphs) paragraphs ++ hint

-- what is shown of a long explanation: its first paragraphs and its hint
abbrev pub shortened_long : Text → Text
shortened_long whole = shortened_to (take (paragraph_bytes whole) whole) (drop (paragraph_bytes whole) whole)

-- what is shown of an explanation: all lines where they are at most 60, and else the first paragraphs and the hint
abbrev pub shortened : Text → Text
shortened whole = if nat_lt 60 (line_total whole) then shortened_long whole else whole

-- ---- long lines

-- what is shown of a byte of a line, of which so many bytes have room: in place of the last one two dots, and nothing behind them
abbrev pub displayed_byte : ℕ → ℕ → Text
displayed_byte zero byte = if is_line_feed byte then byte ∷ [] else []
displayed_byte (suc zero) byte = if is_line_feed byte then byte ∷ [] else codes ".."
displayed_byte (suc (suc room)) byte = byte ∷ []

-- how many bytes have room behind this one: in a line so many as are left of 500
abbrev pub room_behind : ℕ → ℕ → ℕ
room_behind room byte = if is_line_feed byte then 500 else room - 1

-- the bytes that are shown of these, where so many have room in the line: of a line of 500 bytes and more the first 499, and two dots
abbrev pub narrowed_from : ℕ → Text → Text
narrowed_from room [] = []
narrowed_from room (byte ∷ rest) = displayed_byte room byte ++ narrowed_from (room_behind room byte) rest

-- what is shown of these paragraphs and this hint, where little is asked for: so many lines in front of the paragraphs, and the hint
abbrev pub summary_to : ℕ → Text → Text → Text
summary_to heads paragraphs hint = take (displayed_bytes (suc heads) paragraphs) paragraphs ++ hint

-- the lines in front of the paragraphs of an explanation, which are so many, and its hint
abbrev pub summary : ℕ → Text → Text
summary heads whole = summary_to heads (take (paragraph_bytes whole) whole) (drop (paragraph_bytes whole) whole)

-- what is shown of an explanation that has so many lines in front of its paragraphs
abbrev pub displayed : ℕ → Extent → Text → Text
displayed heads Whole whole = whole
displayed heads Usual whole = narrowed_from 500 (shortened whole)
displayed heads Short whole = narrowed_from 500 (summary heads whole)

-- the lines show what is told so, with so many lines in front of its paragraphs, to this extent
pub record IsDisplayed (heads : ℕ) (extent : Extent) (Tells : Text → Type 0) (lines : Text) : Type 0 where
  pub whole : Text
  pub tells : Tells whole
  pub lines_are : lines ≡ displayed heads extent whole
