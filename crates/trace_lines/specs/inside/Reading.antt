-- Reading a line, as functions on lists.
use Rattle.std.specs.Prelude.{ℕ, ◌==◌, ◌+◌, ◌^◌, Bool, true, false, not, ◌&&◌, ◌||◌, if◌then◌else◌, Option, Some, None, List, [], ◌∷◌, length, drop, map, slice_index, codes, nat_le, nat_lt, bytes_eq}
use Rattle.std.specs.List.{list_all, list_any, position_or_len, before_first, after_first, slice_split}
use Rattle.std.specs.Str.Parse.{digits_value}
use Rattle.monitor_laws.specs.Lines.{Announcement, Joins, Arrives, Leaves, Waits, Goes, Ends, Stands, TraceLine, SaysNothing, AsksReport, AsksList, AreGone, Announces, PlaysAny, PlaysOneOf}
use Rattle.trace_lines.specs.Grammar.{is_participant_name, is_phaser_name, kept_byte, most_line_bytes}

-- a space
abbrev pub is_space : ℕ → Bool
is_space b = b == 32

-- the first word, and what stands behind its space
abbrev pub word_before_space : List ℕ → List ℕ
word_before_space bytes = before_first is_space bytes

-- what stands behind the first space, if one is there
abbrev pub behind_word : List ℕ → Option (List ℕ)
behind_word bytes = if nat_lt (position_or_len is_space bytes) (length bytes) then Some (after_first is_space bytes) else None

-- one to ten digits, without a leading zero
abbrev pub are_digits : List ℕ → Bool
are_digits bytes = list_all (λ b. nat_le 48 b && nat_le b 57) bytes

-- digits without a zero in front, ten at most
abbrev pub may_be_number : List ℕ → Bool
may_be_number bytes = nat_le 1 (length bytes) && nat_le (length bytes) 10 && (length bytes == 1 || not (slice_index bytes 0 == 48)) && are_digits bytes

-- the number below 2 ^ 32 whose digits they are
abbrev pub is_phase_number : List ℕ → Bool
is_phase_number bytes = may_be_number bytes && nat_lt (digits_value 10 bytes) (2 ^ 32)

-- the phase that is spelled, if one is
abbrev pub phase_number_at : List ℕ → Option ℕ
phase_number_at bytes = if is_phase_number bytes then Some (digits_value 10 bytes) else None

-- what is read of a line, and what stands behind it
abbrev pub Part : Type 0 → Type 0
Part A = Option (A × Option (List ℕ))

-- the name of a phaser
abbrev pub phaser_part : Option (List ℕ) → Part (List ℕ)
phaser_part None = None
phaser_part (Some bytes) = if is_phaser_name (word_before_space bytes) then Some (word_before_space bytes, behind_word bytes) else None

-- a number
abbrev pub number_before : Option (List ℕ) → Option ℕ → Part ℕ
number_before rest None = None
number_before rest (Some n) = Some (n, rest)

-- the phase with which the rest begins, and what is behind it
abbrev pub number_part : Option (List ℕ) → Part ℕ
number_part None = None
number_part (Some bytes) = number_before (behind_word bytes) (phase_number_at (word_before_space bytes))

-- the name of a phaser and a number
abbrev pub joined_number : List ℕ → Part ℕ → Part (List ℕ × ℕ)
joined_number p None = None
joined_number p (Some part) = Some ((p, part.0), part.1)

-- a phase behind a phaser
abbrev pub phase_behind : Part (List ℕ) → Part (List ℕ × ℕ)
phase_behind None = None
phase_behind (Some part) = joined_number part.0 (number_part part.1)

-- a phaser and a phase, and what is behind them
abbrev pub phase_part : Option (List ℕ) → Part (List ℕ × ℕ)
phase_part rest = phase_behind (phaser_part rest)

-- what is said, of these parts
abbrev pub said_with : {A : Type 0} → (A → Announcement) → Part A → Part Announcement
said_with what None = None
said_with what (Some part) = Some (what part.0, part.1)

-- what a verb and the words behind it say
abbrev pub said_part : List ℕ → Option (List ℕ) → Part Announcement
said_part verb rest =
    if bytes_eq verb (codes "join") then said_with (λ m. Joins m.0 m.1) (phase_part rest)
    else if bytes_eq verb (codes "wait") then said_with (λ m. Waits m.0 m.1) (phase_part rest)
    else if bytes_eq verb (codes "arrive") then said_with Arrives (phaser_part rest)
    else if bytes_eq verb (codes "leave") then said_with Leaves (phaser_part rest)
    else if bytes_eq verb (codes "go") then Some (Goes, rest)
    else if bytes_eq verb (codes "end") then Some (Ends, rest)
    else if bytes_eq verb (codes "at") then Some (Stands, rest)
    else None

-- a place behind its sign: where one may stand
abbrev pub is_place : List ℕ → Bool
is_place bytes = nat_le 2 (length bytes) && nat_le (length bytes) 257 && slice_index bytes 0 == 64

-- a place as it is kept
abbrev pub kept_place : List ℕ → List ℕ
kept_place raw = map kept_byte raw

-- the place that the rest is, or that there is none
abbrev pub place_part : Option (List ℕ) → Option (Option (List ℕ))
place_part None = Some None
place_part (Some bytes) = if is_place bytes then Some (Some (drop 1 bytes)) else None

-- `T at` has a place
abbrev pub says_nothing : Announcement → Bool
says_nothing (Joins p n) = false
says_nothing (Arrives p) = false
says_nothing (Leaves p) = false
says_nothing (Waits p n) = false
says_nothing Goes = false
says_nothing Ends = false
says_nothing Stands = true

-- the line of what is said with or without a place
abbrev pub placed_said : List ℕ → Announcement → Option (Option (List ℕ)) → Option TraceLine
placed_said t what None = None
placed_said t what (Some None) = if says_nothing what then None else Some (Announces t what None)
placed_said t what (Some (Some raw)) = Some (Announces t what (Some (kept_place raw)))

-- the line of what is announced, where nothing but a place stands behind it
abbrev pub announced : List ℕ → Part Announcement → Option TraceLine
announced t None = None
announced t (Some part) = placed_said t part.0 (place_part part.1)

-- the names behind `of`: each is one, and no two are the same
abbrev pub are_names : List (List ℕ) → Bool
are_names [] = true
are_names (t ∷ names) = is_participant_name t && not (list_any (bytes_eq t) names) && are_names names

-- the words between spaces
abbrev pub spaced_words : List ℕ → List (List ℕ)
spaced_words bytes = slice_split is_space bytes

-- the words that are left
abbrev pub words_behind : Option (List ℕ) → List (List ℕ)
words_behind None = []
words_behind (Some bytes) = spaced_words bytes

-- how many bytes are left, one more where some may come
abbrev pub bytes_left : Option (List ℕ) → ℕ
bytes_left None = 0
bytes_left (Some bytes) = length bytes + 1

-- the line by which a wildcard gets these players
abbrev pub played_by : List ℕ → Option (List ℕ) → Option TraceLine
played_by w None = None
played_by w (Some bytes) = if are_names (spaced_words bytes) then Some (PlaysOneOf w (spaced_words bytes)) else None

-- a name, a verb and what stands behind it
abbrev pub any_line : List ℕ → Option (List ℕ) → Option TraceLine
any_line w None = Some (PlaysAny w)
any_line w (Some rest) = None

-- the line that the verb behind a name says
abbrev pub verb_line : List ℕ → List ℕ → Option (List ℕ) → Option TraceLine
verb_line t verb rest =
    if bytes_eq verb (codes "any") then any_line t rest
    else if bytes_eq verb (codes "of") then played_by t rest
    else announced t (said_part verb rest)

-- `gone`, a space and this
abbrev pub is_one_word_verb : List ℕ → Bool
is_one_word_verb verb = bytes_eq verb (codes "go") || bytes_eq verb (codes "end") || bytes_eq verb (codes "at")

-- the line that somebody is gone, or one of a task of that name
abbrev pub gone_line : List ℕ → Option (List ℕ) → Option TraceLine
gone_line bytes None = if is_participant_name bytes then Some (AreGone bytes) else None
gone_line bytes (Some rest) = if is_one_word_verb (word_before_space bytes) then None else verb_line (codes "gone") (word_before_space bytes) (Some rest)

-- the line that begins with a name
abbrev pub named_line : List ℕ → List ℕ → Option TraceLine
named_line t bytes =
    if not (is_participant_name t) then None
    else if bytes_eq t (codes "gone") then gone_line bytes (behind_word bytes)
    else verb_line t (word_before_space bytes) (behind_word bytes)

-- a line of one word
abbrev pub short_line : List ℕ → Option TraceLine
short_line bytes =
    if bytes_eq bytes (codes "report") then Some AsksReport
    else if bytes_eq bytes (codes "list") then Some AsksList
    else None

-- the line by its first word and the rest
abbrev pub worded_line : List ℕ → Option (List ℕ) → Option TraceLine
worded_line bytes None = short_line bytes
worded_line bytes (Some rest) = named_line (word_before_space bytes) rest

-- a line
abbrev pub trace_line_at : List ℕ → Option TraceLine
trace_line_at bytes =
    if nat_lt most_line_bytes (length bytes) then None
    else if length bytes == 0 || slice_index bytes 0 == 35 then Some SaysNothing
    else worded_line bytes (behind_word bytes)
