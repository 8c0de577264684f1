-- Those who become stuck by a line, and what is told of them.
use Rattle.std.specs.Prelude.{◌≡◌, ℕ, ◌<◌, Bool, true, false, not, ◌&&◌, All, Option, Some, None, List, [], ◌∷◌, ◌++◌, codes, find, length, map, unwrap_or}
use Rattle.monitor_laws.specs.Lines.{Announcement, Joins, Arrives, Leaves, Waits, Goes, Ends, Stands, TraceLine, SaysNothing, AsksReport, AsksList, AreGone, Announces, PlaysAny, PlaysOneOf}
use Rattle.monitor_laws.specs.States.{Participant, TraceState, is_there_as}
use Rattle.monitor_words.specs.Messages.{rows_told, those_only_in}
use Rattle.monitor_words.specs.Reasons.{IsStuckBecause, StuckBecause}
use Rattle.monitor_words.specs.Sentences.{sentence_words, told_verdict}
use Rattle.monitor_words.specs.Words.{message_line}
use Rattle.monitor_words.specs.inside.ValueMessages.{shown_resolved_words}
use Rattle.monitor_words.specs.declared.names.ShownNames.{ShownNames}
use Rattle.monitor_reasons.specs.Found.{participant_at}
use Rattle.monitor_messages.specs.declared.newly.NewlyStuck.{NewlyStuck}

-- a task says that it waits
abbrev pub says_wait : Announcement → Bool
says_wait (Joins p n) = false
says_wait (Arrives p) = false
says_wait (Leaves p) = false
says_wait (Waits p n) = true
says_wait Goes = false
says_wait Ends = false
says_wait Stands = false

-- the line is a wait, and this is who is there with its name
abbrev pub waits_by : TraceLine → Participant → Bool
waits_by SaysNothing u = false
waits_by AsksReport u = false
waits_by AsksList u = false
waits_by (AreGone beginning) u = false
waits_by (Announces t what place) u = says_wait what && is_there_as t u
waits_by (PlaysAny w) u = false
waits_by (PlaysOneOf w names) u = false

-- is stuck now and was not before
abbrev pub is_newly_stuck : (ℕ → Bool) → (ℕ → Bool) → Participant → Bool
is_newly_stuck was stuck u = stuck u.number && not (was u.number)

-- the first of the list who passes the test stands here; nobody does where it is no place
abbrev pub IsFoundAt : (Participant → Bool) → List Participant → Option ℕ → Type 0
IsFoundAt p us None = find p us ≡ None
IsFoundAt p us (Some i) = (i < length us) × (find p us ≡ Some (participant_at us i))

-- on whom the message on those at these places is: on who passes the test, and else on the first of them
abbrev pub IsFirstTold : (Participant → Bool) → List Participant → List ℕ → ℕ → Type 0
IsFirstTold p us places f =
    (f < length us) × (i : ℕ) × (others : List ℕ) × (places ≡ i ∷ others) × (participant_at us f ≡ unwrap_or (find p us) (participant_at us i))

-- these tasks become stuck by the line
pub record AreNewlyStuck (l : TraceLine) (s : TraceState) (was stuck : ℕ → Bool) (newly : NewlyStuck) : Type 0 where
  pub are : map (participant_at s.list) newly.places.items ≡ those_only_in s stuck was
  pub within : All (λ i. i < length s.list) newly.places.items
  pub first : IsFirstTold (waits_by l) s.list newly.places.items newly.first

-- the message on f and those who become stuck with it
abbrev pub IsToldOn : TraceState → (ℕ → Bool) → (ℕ → Bool) → Participant → List Participant → List ℕ → Type 0
IsToldOn s was stuck f newly words =
    (because : StuckBecause) × IsStuckBecause s stuck f because
    × (words ≡ message_line (told_verdict because ++ sentence_words (codes " waits for ") f because) ++ rows_told s was stuck f newly because)

-- the message on those who become stuck, on who passes the test and else on the first of them; and whether there is anybody
abbrev pub TellsNewly : (Participant → Bool) → TraceState → (ℕ → Bool) → (ℕ → Bool) → List Participant → List ℕ → Bool → Type 0
TellsNewly p s was stuck [] words told = (words ≡ []) × (told ≡ false)
TellsNewly p s was stuck (first ∷ others) words told =
    (f : Participant) × (f ≡ unwrap_or (find p s.list) first) × IsToldOn s was stuck f (first ∷ others) words × (told ≡ true)

-- the message on those who are stuck no more, of whom these names are shown
abbrev pub gone_words : Option ShownNames → List ℕ
gone_words None = []
gone_words (Some names) = shown_resolved_words names
