-- The guard, as the program does it.
use Rattle.std.specs.Prelude.{◌≡◌, ℕ, Bool, true, false, ◌&&◌, Option, List, ◌++◌, Contains, codes}
use Rattle.std.specs.List.{list_any}
use Rattle.monitor_laws.specs.Lines.{Announces, Stands}
use Rattle.monitor_laws.specs.States.{Participant, TraceState, is_there_as}
use Rattle.monitor_search.specs.Known.{AreStuckTasks, has_stuck_number}
use Rattle.monitor_words.specs.Reasons.{IsStuckBecause, StuckBecause}
use Rattle.monitor_words.specs.Sentences.{sentence_words}
use Rattle.monitor_words.specs.Words.{message_line}
use Rattle.monitor_messages.specs.inside.Changes.{IsKnownBefore, TellsChange}

-- is there with the name t, and one of these stuck ones
abbrev pub is_stuck_as : List (ℕ × List ℕ) → List ℕ → Participant → Bool
is_stuck_as stuck t u = is_there_as t u && has_stuck_number stuck u.number

-- the words that refuse a wait, with why its task would be stuck
abbrev pub RefusesWait : TraceState → List (ℕ × List ℕ) → Participant → List ℕ → Type 0
RefusesWait after stuck u words =
    (because : StuckBecause)
    × IsStuckBecause after (has_stuck_number stuck) u because
    × (words ≡ message_line (codes "refuse " ++ u.name ++ codes ": " ++ sentence_words (codes " would wait for ") u because))

-- the words that let t wait
abbrev pub may_wait_words : List ℕ → List ℕ
may_wait_words t = message_line (codes "wait " ++ t)

-- these bytes, which were appended, answer the wait of t, in the state behind it: it is refused, or t may wait
abbrev pub AnswersWait : TraceState → List (ℕ × List ℕ) → List ℕ → List ℕ → List ℕ → (refuses : Bool) → Type 0
AnswersWait after stuck t old new true =
    (u : Participant) × Contains after.list u × (is_stuck_as stuck t u ≡ true) × (words : List ℕ) × (new ≡ old ++ words) × RefusesWait after stuck u words
AnswersWait after stuck t old new false = (list_any (is_stuck_as stuck t) after.list ≡ false) × (new ≡ old ++ may_wait_words t)

-- the task stands where it was, at this place, and these bytes tell what changes by that
abbrev pub StandsBack : TraceState → List ℕ → Option (List ℕ) → List (ℕ × List ℕ) → TraceState → List (ℕ × List ℕ) → List ℕ → List ℕ → Type 0
StandsBack s t place was after stuck old new =
    IsKnownBefore s (Announces t Stands place) was after
    × AreStuckTasks after stuck
    × ((told : Bool) × TellsChange s (Announces t Stands place) was after stuck old new told)
