-- Words for the places, the activities, and the clocks and finishes of a clock text.
use Rattle.std.specs.Prelude.{ℕ, zero, suc, ◌-◌, ◌==◌, if◌then◌else◌, List, [], ◌++◌, Option, Some, None, codes, decimal, length, slice_get}
use Rattle.source_map.specs.TextPlaces.{text_place}
use Rattle.source_map.specs.PlaceWords.{front_words, place_words}
use Rattle.source_map.specs.declared.place.TextPlace.{TextPlace}
use Rattle.clock_source_map.specs.ClockOrigins.{StartedActivity}
use Rattle.explain_clock.specs.ClockFacts.{ClockFacts, ClockWait, ClockTextValue}

-- ---- places

-- the offset of statement n, and that of the end of the text where there is no such statement
abbrev pub offset_or_end : List ℕ → Option ℕ → ℕ
offset_or_end text None = length text
offset_or_end text (Some offset) = offset

-- the offset of statement n, counted from 1; for 0 the end of the text
abbrev pub offset_of : List ℕ → List ℕ → ℕ → ℕ
offset_of text offsets zero = length text
offset_of text offsets (suc i) = offset_or_end text (slice_get offsets i)

-- the place of statement n
abbrev pub clock_statement_place : ClockTextValue → ℕ → TextPlace
clock_statement_place f n = text_place f.text (offset_of f.text f.offsets n)

-- the place within a line
abbrev pub statement_place_words : ClockTextValue → ℕ → List ℕ
statement_place_words f n = place_words f.text (clock_statement_place f n)

-- the place with which a line begins, of a statement or else of none
abbrev pub front_of : ClockTextValue → Option ℕ → List ℕ
front_of f None = []
front_of f (Some n) = front_words f.text f.file (clock_statement_place f n) ++ codes ": "

-- ---- activities

-- where an activity is started by an async, the number of its statement given
abbrev pub async_words : ClockTextValue → ℕ → List ℕ
async_words f n = if n == 0 then [] else codes " (async at " ++ statement_place_words f n ++ codes ")"

-- where it is started, if there is such an activity
abbrev pub started_words : ClockTextValue → Option StartedActivity → List ℕ
started_words f None = []
started_words f (Some b) = async_words f (b.first - 1)

-- where activity t is started:  (async at 3:5), and nothing for activity 0
abbrev pub started_at_words : ClockTextValue → ℕ → List ℕ
started_at_words f t = started_words f (slice_get f.begun t)

-- activity 1 (async at 3:5)
abbrev pub activity_words : ClockTextValue → ℕ → List ℕ
activity_words f t = codes "activity " ++ decimal t ++ started_at_words f t

-- ---- clocks and finishes

-- a clock of this name, made at statement n: clock c made at 1:1
abbrev pub made_clock_words : ClockTextValue → List ℕ → ℕ → List ℕ
made_clock_words f x n = codes "clock " ++ x ++ codes " made at " ++ statement_place_words f n

-- the finish of statement n: the finish at 2:1
abbrev pub made_finish_words : ClockTextValue → ℕ → List ℕ
made_finish_words f n = codes "the finish at " ++ statement_place_words f n

-- ---- where an activity waits

-- the statement at which it waits, if there is such an activity
abbrev pub wait_statement : Option ClockWait → Option ℕ
wait_statement None = None
wait_statement (Some w) = w.statement

-- the statement at which activity t waits
abbrev pub waits_at : ClockFacts → ℕ → Option ℕ
waits_at f t = wait_statement (slice_get f.waits t)
