-- What a line calls for.
use Rattle.std.specs.Prelude.{◌≡◌, ℕ, Bool, not, ◌&&◌, ◌==◌, if◌then◌else◌, Option, List, [], ◌∷◌, ◌++◌, ◌⊎◌, codes, count_by, decimal, filter, find, flat_map, length, unwrap_or}
use Rattle.std.specs.List.{list_any}
use Rattle.monitor_laws.specs.Faults.{waits_now}
use Rattle.monitor_laws.specs.Guards.{IsRefusedWait, IsTakenAs}
use Rattle.monitor_laws.specs.Lines.{Waits, TraceLine, AsksReport, AsksList, Announces}
use Rattle.monitor_laws.specs.States.{Participant, TraceState, after_line, is_live_task}
use Rattle.monitor_words.specs.Stops.{TellsStuck, keeps_waiting}
use Rattle.monitor_words.specs.Reasons.{InCircle, IsStuckBecause, StuckBecause, StuckStops, has_ended}
use Rattle.monitor_words.specs.Sentences.{sentence_words, told_verdict}
use Rattle.monitor_words.specs.Words.{waited_event, groups_by, message_line, names_of, rows_words, wait_alike}

-- ---- tasks that become stuck, and tasks that are stuck no more

-- those of the list who are in the one and not in the other
abbrev pub those_only_in : TraceState → (ℕ → Bool) → (ℕ → Bool) → List Participant
those_only_in s these others = filter (λ u. these u.number && not (others u.number)) s.list

-- waits now and did not in the state before: the task of a wait
abbrev pub waits_newly : TraceState → Participant → Bool
waits_newly before u = waits_now u.condition && not (list_any (λ v. waits_now v.condition && (v.number == u.number)) before.list)

-- the others of the circle, or the stuck task that the sentence names
abbrev pub others_told : StuckBecause → List Participant
others_told (InCircle others) = others
others_told (StuckStops u) = u ∷ []
others_told _ = []

-- ROWS of those that are newly stuck, f's first; none where one task alone is, and one of those others was stuck before
abbrev pub rows_told : TraceState → (ℕ → Bool) → (ℕ → Bool) → Participant → List Participant → StuckBecause → List ℕ
rows_told s was stuck f newly because =
    if (length newly == 1) && list_any (λ u. was u.number) (others_told because) then []
    else rows_words s stuck (groups_by wait_alike (f ∷ newly) newly)

-- the message on those that are newly stuck: on who waits newly, and else on the first of them
abbrev pub IsToldOf : TraceState → TraceState → (ℕ → Bool) → (ℕ → Bool) → List Participant → List ℕ → Type 0
IsToldOf before s was stuck [] told = told ≡ []
IsToldOf before s was stuck (first ∷ others) told =
    (f : Participant) × (because : StuckBecause) × (f ≡ unwrap_or (find (waits_newly before) s.list) first) × IsStuckBecause s stuck f because
    × (told
    ≡ message_line (told_verdict because ++ sentence_words (codes " waits for ") f because) ++ rows_told s was stuck f (first ∷ others) because)

-- the message on those that are stuck no more
abbrev pub resolved_words : List Participant → List ℕ
resolved_words [] = []
resolved_words (u ∷ others) = message_line (codes "resolved: " ++ names_of (u ∷ others))

-- ---- reports and lists

-- somebody of the list keeps the task waiting
abbrev pub is_kept_waiting : TraceState → Participant → Bool
is_kept_waiting s t = list_any (λ u. keeps_waiting u t) s.list

-- the first line of a report
abbrev pub tasks_line : TraceState → (ℕ → Bool) → List ℕ
tasks_line s stuck =
    message_line (codes "tasks "
    ++ decimal (count_by (λ u. is_live_task u.condition) s.list)
    ++ codes " running "
    ++ decimal (count_by (λ u. is_live_task u.condition && not (waits_now u.condition)) s.list)
    ++ codes " waiting "
    ++ decimal (count_by (λ u. waits_now u.condition) s.list)
    ++ codes " stuck "
    ++ decimal (count_by (λ u. stuck u.number) s.list)
    ++ codes " ended "
    ++ decimal (count_by (λ u. has_ended u.condition) s.list))

-- the report of a state: its rows are of the tasks that are kept waiting
abbrev pub report_words : TraceState → (ℕ → Bool) → List ℕ
report_words s stuck =
    tasks_line s stuck ++ rows_words s stuck (groups_by wait_alike (filter (is_kept_waiting s) s.list) (filter (is_kept_waiting s) s.list))

-- the line of a list on a waiting task
abbrev pub listed_line : TraceState → (ℕ → Bool) → Participant → List ℕ
listed_line s stuck t =
    message_line ((if stuck t.number then codes "stuck " else if is_kept_waiting s t then codes "held " else codes "free ")
    ++ t.name
    ++ codes " "
    ++ (waited_event t).0
    ++ codes " "
    ++ decimal (waited_event t).1)

-- the list of a state
abbrev pub list_words_of : TraceState → (ℕ → Bool) → List ℕ
list_words_of s stuck =
    flat_map (listed_line s stuck) (filter (λ t. waits_now t.condition) s.list)
    ++ message_line (codes "listed " ++ decimal (count_by (λ t. waits_now t.condition) s.list))

-- what the line asks for
abbrev pub asked_words : TraceState → (ℕ → Bool) → TraceLine → List ℕ
asked_words s stuck AsksReport = report_words s stuck
asked_words s stuck AsksList = list_words_of s stuck
asked_words s stuck _ = []

-- ---- the message of a line

-- the message of a legal line in the state before it: first who is stuck no more, then who becomes stuck, then what is asked for
pub record IsMessage (s : TraceState) (l : TraceLine) (message : List ℕ) : Type 0 where
  pub was : ℕ → Bool
  pub stuck : ℕ → Bool
  pub before : TellsStuck s was
  pub after : TellsStuck (after_line s l) stuck
  pub told : List ℕ
  pub tells : IsToldOf s (after_line s l) was stuck (those_only_in (after_line s l) stuck was) told
  pub is : message ≡ resolved_words (those_only_in s was stuck) ++ told ++ asked_words (after_line s l) stuck l

-- ---- the guard

-- the line is a wait of the task with this name
abbrev pub IsWaitLine : TraceLine → List ℕ → Type 0
IsWaitLine l t = (p : List ℕ) × (n : ℕ) × (place : Option (List ℕ)) × (l ≡ Announces t (Waits p n) place)

-- the answer to a wait that is refused, with the sentence of the state in which its task would be stuck
pub record IsRefusal (s : TraceState) (l : TraceLine) (answer : List ℕ) : Type 0 where
  pub refused : IsRefusedWait s l
  pub stuck : ℕ → Bool
  pub would_be : TellsStuck (after_line s l) stuck
  pub because : StuckBecause
  pub reason : IsStuckBecause (after_line s l) stuck refused.task because
  pub is :
      answer ≡ message_line (codes "refuse " ++ refused.task.name ++ codes ": " ++ sentence_words (codes " would wait for ") refused.task because)

-- the answer of the guard: a wait is refused or not, and nothing else has an answer
abbrev pub IsAnswerOf : TraceState → TraceLine → List ℕ → Type 0
IsAnswerOf s l answer =
    IsRefusal s l answer
    ⊎ ((t : List ℕ) × IsWaitLine l t × (IsRefusedWait s l → ⊥) × (answer ≡ message_line (codes "wait " ++ t)))
    ⊎ (((t : List ℕ) → IsWaitLine l t → ⊥) × (answer ≡ []))

-- with the guard: the message of what stands of the line, then the answer
pub record IsGuardedMessage (s : TraceState) (l : TraceLine) (message : List ℕ) : Type 0 where
  pub taken : TraceLine
  pub stands : IsTakenAs s l taken
  pub told : List ℕ
  pub answer : List ℕ
  pub tells : IsMessage s taken told
  pub answers : IsAnswerOf s l answer
  pub is : message ≡ told ++ answer
