-- The place of another program that a line names in its comment: //@ Averaging.java:9
use Rattle.std.specs.Prelude.{ℕ, ◌+◌, ◌-◌, ◌==◌, Bool, not, ◌&&◌, ◌||◌, nat_le, if◌then◌else◌, List, [], ◌∷◌, length, drop, Option, Some, None}
use Rattle.std.specs.List.{list_all, prefix_len}
use Rattle.pl_syntax.specs.Words.{begins_with}
use Rattle.source_map.specs.declared.named.Span.{Span}

-- a space or a tab: what stands between the sign //@ and the name
abbrev pub is_gap : ℕ → Bool
is_gap b = b == 32 || b == 9

-- a byte of a name: none of the control bytes and no space
abbrev pub is_place_byte : ℕ → Bool
is_place_byte b = nat_le 33 b && not (b == 127)

-- a space, a tab or a CR: what may stand behind the name
abbrev pub is_trailing : ℕ → Bool
is_trailing b = is_gap b || b == 13

-- how many bytes a name has at most
abbrev pub max_place_bytes : ℕ
max_place_bytes = 255

-- ---- the same, found in the line

-- from the first `//` of a line on
abbrev pub comment_of : List ℕ → List ℕ
comment_of [] = []
comment_of (b ∷ bs) = if b == 47 && begins_with 47 bs then b ∷ bs else comment_of bs

-- the span behind so many more bytes
abbrev pub moved_span : ℕ → Option Span → Option Span
moved_span n None = None
moved_span n (Some s) = Some (record { from = n + s.from; to = n + s.to })

-- the span, where the test holds
abbrev pub span_if : Bool → ℕ → ℕ → Option Span
span_if test from to = if test then Some (record { from = from; to = to }) else None

-- a gap of so many bytes and a name of so many stand here, and nothing behind them
abbrev pub is_gap_and_name : List ℕ → ℕ → ℕ → Bool
is_gap_and_name text gap name =
    nat_le 1 gap && (nat_le 1 name && (nat_le name max_place_bytes && list_all is_trailing (drop (gap + name) text)))

-- the name behind the sign //@
abbrev pub name_behind : List ℕ → Option Span
name_behind text =
    let gap = prefix_len is_gap text in
    let name = prefix_len is_place_byte (drop gap text) in
    span_if (is_gap_and_name text gap name) gap (gap + name)

-- the name in a comment that begins with //
abbrev pub name_in_comment : List ℕ → Option Span
name_in_comment comment = if begins_with 64 (drop 2 comment) then moved_span 3 (name_behind (drop 3 comment)) else None

-- the name in a line
abbrev pub named_in : List ℕ → Option Span
named_in line = moved_span (length line - length (comment_of line)) (name_in_comment (comment_of line))
