-- How the lines of a trace are spelled.
use Rattle.std.specs.Prelude.{◌≡◌, ◌≢◌, ℕ, ◌≤◌, ◌==◌, Bool, true, false, not, ◌&&◌, if◌then◌else◌, Option, Some, None, List, [], ◌∷◌, ◌++◌, ◌⊎◌, length, map, flat_map, slice_index, codes, decimal, nat_le, bytes_eq}
use Rattle.std.specs.List.{list_all, list_any}
use Rattle.monitor_laws.specs.Lines.{Announcement, Joins, Arrives, Leaves, Waits, Goes, Ends, Stands, TraceLine, SaysNothing, AsksReport, AsksList, AreGone, Announces, PlaysAny, PlaysOneOf}
use Rattle.monitor_laws.specs.Faults.{last_phase}

-- a line has 511 bytes at most, its LF not counted
abbrev pub most_line_bytes : ℕ
most_line_bytes = 511

-- 1 to 64 bytes from 33 to 126
abbrev pub is_word : List ℕ → Bool
is_word w = nat_le 1 (length w) && nat_le (length w) 64 && list_all (λ b. nat_le 33 b && nat_le b 126) w

-- a word that does not begin with @
abbrev pub is_phaser_name : List ℕ → Bool
is_phaser_name p = is_word p && not (slice_index p 0 == 64)

-- a word that begins neither with @ nor with #
abbrev pub is_participant_name : List ℕ → Bool
is_participant_name t = is_word t && not (slice_index t 0 == 64) && not (slice_index t 0 == 35)

-- a byte of a place as it is kept
abbrev pub kept_byte : ℕ → ℕ
kept_byte b = if nat_le 32 b && nat_le b 126 then b else 63

-- what a line says of its task or wildcard, behind the name and a space
abbrev pub SpellsSaid : List ℕ → Announcement → Type 0
SpellsSaid bytes (Joins p n) = (is_phaser_name p ≡ true) × (n ≤ last_phase) × (bytes ≡ codes "join " ++ p ++ 32 ∷ decimal n)
SpellsSaid bytes (Arrives p) = (is_phaser_name p ≡ true) × (bytes ≡ codes "arrive " ++ p)
SpellsSaid bytes (Leaves p) = (is_phaser_name p ≡ true) × (bytes ≡ codes "leave " ++ p)
SpellsSaid bytes (Waits p n) = (is_phaser_name p ≡ true) × (n ≤ last_phase) × (bytes ≡ codes "wait " ++ p ++ 32 ∷ decimal n)
SpellsSaid bytes Goes = bytes ≡ codes "go"
SpellsSaid bytes Ends = bytes ≡ codes "end"
SpellsSaid bytes Stands = bytes ≡ codes "at"

-- a place behind ` @`, or none: 1 to 256 bytes
abbrev pub SpellsPlace : List ℕ → Option (List ℕ) → Type 0
SpellsPlace bytes None = bytes ≡ []
SpellsPlace bytes (Some place) = (raw : List ℕ) × (1 ≤ length raw) × (length raw ≤ 256) × (place ≡ map kept_byte raw) × (bytes ≡ codes " @" ++ raw)

-- it is said by one word
abbrev pub IsOneWord : Announcement → Type 0
IsOneWord (Joins p n) = ⊥
IsOneWord (Arrives p) = ⊥
IsOneWord (Leaves p) = ⊥
IsOneWord (Waits p n) = ⊥
IsOneWord Goes = Unit {0}
IsOneWord Ends = Unit {0}
IsOneWord Stands = Unit {0}

-- no two are the same
abbrev pub HasNoTwice : List (List ℕ) → Type 0
HasNoTwice [] = Unit {0}
HasNoTwice (t ∷ names) = (list_any (bytes_eq t) names ≡ false) × HasNoTwice names

-- a line in so many bytes. `gone` and one more word says that tasks are gone, and nothing else; `T at` has a place
abbrev pub SpellsLine : List ℕ → TraceLine → Type 0
SpellsLine bytes SaysNothing = (bytes ≡ []) ⊎ ((rest : List ℕ) × (bytes ≡ 35 ∷ rest))
SpellsLine bytes AsksReport = bytes ≡ codes "report"
SpellsLine bytes AsksList = bytes ≡ codes "list"
SpellsLine bytes (AreGone beginning) = (is_participant_name beginning ≡ true) × (bytes ≡ codes "gone " ++ beginning)
SpellsLine bytes (Announces t what place) =
    (is_participant_name t ≡ true) × (said : List ℕ) × (at : List ℕ) × SpellsSaid said what × SpellsPlace at place × (bytes ≡ t ++ 32 ∷ said ++ at)
    × (t ≡ codes "gone" → IsOneWord what → ⊥) × (what ≡ Stands → place ≢ None)
SpellsLine bytes (PlaysAny w) = (is_participant_name w ≡ true) × (w ≢ codes "gone") × (bytes ≡ w ++ codes " any")
SpellsLine bytes (PlaysOneOf w names) =
    (is_participant_name w ≡ true) × (names ≢ []) × (list_all is_participant_name names ≡ true) × HasNoTwice names
    × (bytes ≡ w ++ codes " of" ++ flat_map (λ t. 32 ∷ t) names)

-- a line that is not too long
abbrev pub IsLine : List ℕ → TraceLine → Type 0
IsLine bytes line = (length bytes ≤ most_line_bytes) × SpellsLine bytes line
