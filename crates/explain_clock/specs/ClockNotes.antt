-- The notes of a clock text, where nobody waits for ever: on clocks on which nobody ever has to wait for another activity, and on finishes that never have to wait.
use Rattle.std.specs.Prelude.{ℕ, zero, suc, ◌==◌, ◌&&◌, Bool, false, is_some, if◌then◌else◌, List, [], ◌++◌, Option, Some, None, codes, length, slice_get}
use Rattle.armus_base.specs.Places.{some_before}
use Rattle.armus_base.specs.Plans.{Plan}
use Rattle.pl_syntax.specs.Printed.{line}
use Rattle.clock_source_map.specs.ClockOrigins.{MadeThing}
use Rattle.explain_facts.specs.PhaserUses.{is_used_so}
use Rattle.explain_facts.specs.declared.uses.PhaserUse.{PhaserUse}
use Rattle.explain_facts.specs.declared.uses.PhaserUse.TheVariants.{Awaits, Registers}
use Rattle.explain_clock.specs.ClockFacts.{ClockTextValue}
use Rattle.explain_clock.specs.ClockWords.{front_of}
use Rattle.explain_clock.specs.declared.notes.ClockNote.{ClockNote}
use Rattle.explain_clock.specs.declared.notes.ClockNote.TheVariants.{NeverWaits, NobodyAdvances, OnlyItsMaker}

-- ---- what a statement makes

-- statement n makes this clock or finish, if there is such a one
abbrev pub is_made_at : ℕ → Option MadeThing → Bool
is_made_at n None = false
is_made_at n (Some thing) = thing.statement == n

-- of these clocks and finishes, by their numbers, statement n makes one below k
abbrev pub is_one_made_at : List MadeThing → ℕ → ℕ → Bool
is_one_made_at things k n = some_before (λ p. is_made_at n (slice_get things p)) k

-- statement n makes one that an op of the plan uses so
abbrev pub is_used_at : PhaserUse → List MadeThing → Plan → ℕ → Bool
is_used_at use_so things plan n = some_before (λ p. is_made_at n (slice_get things p) && is_used_so use_so plan p) (length plan.makers)

-- ---- what is noted

-- what is noted of clocks, or of finishes, by whether one of them is awaited, and whether an activity is registered on one by another activity
abbrev pub noted_by : (clocks awaited registered : Bool) → Option ClockNote
noted_by clocks awaited registered =
    if clocks then (if awaited then (if registered then None else Some OnlyItsMaker) else Some NobodyAdvances) else (if registered then None else Some NeverWaits)

-- what is noted of all that is made at the statement of this clock or finish
abbrev pub noted_with : List MadeThing → Plan → MadeThing → Option ClockNote
noted_with things plan thing =
    noted_by (is_some thing.name) (is_used_at Awaits things plan thing.statement) (is_used_at Registers things plan thing.statement)

-- ---- words

abbrev pub note_words : ClockNote → List ℕ
note_words NobodyAdvances = codes "nobody advances clock "
note_words OnlyItsMaker = codes "only its maker is ever registered on clock "
note_words NeverWaits = codes "the finish never has to wait"

-- the name of a clock; a finish has none
abbrev pub name_words : Option (List ℕ) → List ℕ
name_words None = []
name_words (Some x) = x

-- 1:1: note: nobody advances clock a
abbrev pub clock_note_line : ClockTextValue → MadeThing → ClockNote → List ℕ
clock_note_line f thing note = line (front_of f (Some thing.statement) ++ codes "note: " ++ note_words note ++ name_words thing.name)

-- the same, if there is a note
abbrev pub clock_note_words : ClockTextValue → MadeThing → Option ClockNote → List ℕ
clock_note_words f thing None = []
clock_note_words f thing (Some note) = clock_note_line f thing note

-- the note at the statement that makes p, where p is the first that it makes
abbrev pub note_of_thing : ClockTextValue → Plan → ℕ → Option MadeThing → List ℕ
note_of_thing f plan p None = []
note_of_thing f plan p (Some thing) =
    if is_one_made_at f.things p thing.statement then [] else clock_note_words f thing (noted_with f.things plan thing)

-- the notes of the clocks and finishes below n, in order of number
abbrev pub clock_notes_below : ClockTextValue → Plan → ℕ → List ℕ
clock_notes_below f plan zero = []
clock_notes_below f plan (suc n) = clock_notes_below f plan n ++ note_of_thing f plan n (slice_get f.things n)

-- all notes
abbrev pub clock_notes : ClockTextValue → Plan → List ℕ
clock_notes f plan = clock_notes_below f plan (length plan.makers)
