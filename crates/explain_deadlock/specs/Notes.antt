-- The notes, where nobody waits for ever: on phasers for which nobody ever has to wait, and on awaits at which nobody ever has to.
use Rattle.std.specs.Prelude.{ℕ, zero, suc, ◌==◌, Bool, List, [], ◌++◌, codes, flat_map, if◌then◌else◌, length, slice_get}
use Rattle.armus_base.specs.declared.ids.TaskId.{TaskId}
use Rattle.armus_base.specs.declared.offset.Offset.{Offset}
use Rattle.armus_base.specs.declared.offset.Offset.TheVariants.{Ahead, Back, Here}
use Rattle.armus_base.specs.Plans.{Plan}
use Rattle.armus_base.specs.States.{Phases}
use Rattle.pl_syntax.specs.Printed.{line}
use Rattle.explain_facts.specs.PhaserUses.{is_used_so}
use Rattle.explain_facts.specs.declared.account.ImmediateAwait.{ImmediateAwait}
use Rattle.explain_facts.specs.declared.uses.PhaserUse.TheVariants.{Awaits, Registers}
use Rattle.explain_tasks.specs.Facts.{FactsValue}
use Rattle.explain_tasks.specs.Places.{front_in, named_phaser, named_task, said_of}
use Rattle.explain_deadlock.specs.Hints.{verdict_hint}
use Rattle.explain_deadlock.specs.declared.outcome.WaitVerdict.{WaitVerdict}
use Rattle.explain_deadlock.specs.declared.outcome.WaitVerdict.TheVariants.{Nobody, Circle, Chain}

-- ---- the notes on phasers

-- the place of the `newPhaser` of phaser q, with which its note begins
abbrev pub made_front : FactsValue → ℕ → List ℕ
made_front f q = said_of (front_in f) (slice_get f.account.phasers q)

-- 7:1: note: nobody awaits left
abbrev pub unawaited_note : FactsValue → ℕ → List ℕ
unawaited_note f q = line (made_front f q ++ codes ": note: nobody awaits " ++ named_phaser f q)

-- 7:1: note: only t0 is ever a member of left
abbrev pub alone_words : FactsValue → ℕ → ℕ → List ℕ
alone_words f q t = line (made_front f q ++ codes ": note: only " ++ named_task f t ++ codes " is ever a member of " ++ named_phaser f q)

-- the note on phaser q of which only its maker is ever a member
abbrev pub alone_note : FactsValue → Plan → ℕ → List ℕ
alone_note f plan q = said_of (λ (t : TaskId). alone_words f q t.0) (slice_get plan.makers q)

-- the note on phaser q, if there is one, by whether an op awaits it, and whether one registers a task on it
abbrev pub note_by : FactsValue → Plan → ℕ → (awaited registered : Bool) → List ℕ
note_by f plan q awaited registered = if awaited then (if registered then [] else alone_note f plan q) else unawaited_note f q

-- the same, by the plan
abbrev pub note_of : FactsValue → Plan → ℕ → List ℕ
note_of f plan q = note_by f plan q (is_used_so Awaits plan q) (is_used_so Registers plan q)

-- the notes on the phasers below n, in order of number
abbrev pub notes_below : FactsValue → Plan → ℕ → List ℕ
notes_below f plan zero = []
notes_below f plan (suc n) = notes_below f plan n ++ note_of f plan n

-- the notes on all phasers
abbrev pub phaser_notes : FactsValue → Plan → List ℕ
phaser_notes f plan = notes_below f plan (length plan.makers)

-- ---- the notes on awaits

-- why nobody ever has to wait at an await that looks so far back or ahead
abbrev pub why_immediate : Offset → List ℕ
why_immediate Here = codes "its task has not arrived there yet"
why_immediate (Ahead k) = codes "its task has not arrived there yet"
why_immediate (Back k) = if k == 0 then codes "its task has not arrived there yet" else codes "it looks back to phase 0"

-- 3:3: note: await(b) never has to wait: its task has not arrived there yet
abbrev pub immediate_note : FactsValue → ImmediateAwait → List ℕ
immediate_note f told = line (front_in f told.at ++ codes ": note: " ++ told.words ++ codes " never has to wait: " ++ why_immediate told.off)

-- the notes on these awaits
abbrev pub immediate_notes : FactsValue → List ImmediateAwait → List ℕ
immediate_notes f told = flat_map (immediate_note f) told

-- ---- the end

-- the notes on all phasers, and on the awaits at which nobody ever has to wait
abbrev pub notes : FactsValue → Plan → List ℕ
notes f plan = phaser_notes f plan ++ immediate_notes f f.account.immediate

-- what stands behind the paragraphs: the hint, if one fits, and where nobody waits the notes
abbrev pub verdict_end : FactsValue → Plan → (ℕ → Phases) → WaitVerdict → List ℕ
verdict_end f plan phases Nobody = notes f plan
verdict_end f plan phases (Circle shown) = verdict_hint f phases (Circle shown)
verdict_end f plan phases (Chain held last) = verdict_hint f phases (Chain held last)
