-- The hint of an explanation of a clock text: what an activity of the verdict has to do before it waits.
use Rattle.std.specs.Prelude.{ℕ, Bool, false, if◌then◌else◌, List, [], ◌∷◌, ◌++◌, Option, Some, None, codes, slice_get, slice_index_or}
use Rattle.armus_base.specs.declared.ending.TaskEnd.{TaskEnd}
use Rattle.armus_base.specs.declared.ending.TaskEnd.TheVariants.{Blocked, Done, Refused, Unforked}
use Rattle.armus_base.specs.declared.ids.TaskId.{TaskId}
use Rattle.pl_syntax.specs.Printed.{line}
use Rattle.clock_source_map.specs.ClockOrigins.{MadeThing}
use Rattle.explain_clock.specs.ClockFacts.{ClockFacts, ClockTextValue, end_at, pending_in}
use Rattle.explain_clock.specs.ClockWords.{activity_words, made_clock_words, statement_place_words, waits_at}

-- how one may signal on a clock: where it is pending there, by leaving it alone
abbrev pub mend_words : Bool → List ℕ
mend_words pending = if pending then codes " drop " else codes " resume or drop "

-- before it waits at 5:1
abbrev pub mend_before_words : ClockTextValue → Option ℕ → List ℕ
mend_before_words f None = []
mend_before_words f (Some s) = codes " before it waits at " ++ statement_place_words f s

-- that activity v may signal on clock p: hint: let activity 0 resume or drop, and a blank
abbrev pub mend_front : ClockFacts → ℕ → ℕ → List ℕ
mend_front f v p =
    codes "hint: let " ++ activity_words f.of_text v ++ mend_words (slice_index_or (pending_in (slice_get f.waits v)) p false)

-- on the clock of this name that is made at statement s, before it waits itself: clock c made at 4:1 before it waits at 5:1
abbrev pub mend_rest : ClockFacts → ℕ → List ℕ → ℕ → List ℕ
mend_rest f v x s = made_clock_words f.of_text x s ++ mend_before_words f.of_text (waits_at f v)

-- the hint that activity v may signal on clock p, which has this name and is made at statement s
abbrev pub mend_line : ClockFacts → ℕ → ℕ → List ℕ → ℕ → List ℕ
mend_line f v p x s = line (mend_front f v p ++ mend_rest f v x s)

-- the same, where this is a clock, and not a finish
abbrev pub mend_of_thing : ClockFacts → ℕ → ℕ → Option (List ℕ) → ℕ → List ℕ
mend_of_thing f v p None s = []
mend_of_thing f v p (Some x) s = mend_line f v p x s

-- the same, if there is such a clock or finish
abbrev pub mend_at : ClockFacts → ℕ → ℕ → Option MadeThing → List ℕ
mend_at f v p None = []
mend_at f v p (Some thing) = mend_of_thing f v p thing.name thing.statement

-- the same of activity v, for which one waits that has ended so
abbrev pub mend_by : ClockFacts → ℕ → TaskEnd → List ℕ
mend_by f v (Blocked e) = mend_at f v e.p.0 (slice_get f.of_text.things e.p.0)
mend_by f v Done = []
mend_by f v (Refused e) = []
mend_by f v Unforked = []

-- the first words, or else the others
abbrev pub words_or : List ℕ → List ℕ → List ℕ
words_or [] others = others
words_or (w ∷ ws) others = w ∷ ws

-- the first of these activities, or else this one
abbrev pub first_or_else : TaskId → List TaskId → TaskId
first_or_else t [] = t
first_or_else t (u ∷ us) = u

-- the first hint of these activities, each of which waits for the next one, and the last one for the first of the circle
abbrev pub mends : ClockFacts → TaskId → List TaskId → List ℕ
mends f first [] = []
mends f first (t ∷ ts) = words_or (mend_by f (first_or_else first ts).0 (end_at f t.0)) (mends f first ts)

-- the hint of a circle: the first that fits
abbrev pub clock_circle_hint : ClockFacts → List TaskId → List ℕ
clock_circle_hint f [] = []
clock_circle_hint f (t ∷ ts) = mends f t (t ∷ ts)
