-- What is written of the values of a state is what the definitions say of it.
use Rattle.std.specs.Prelude.{◌≡◌, ℕ, Bool, List, ◌++◌, codes, filter}
use Rattle.monitor_laws.specs.States.{Participant, TraceState}
use Rattle.monitor_words.specs.Messages.{is_kept_waiting, listed_line, report_words, rows_told}
use Rattle.monitor_words.specs.Reasons.{StuckBecause}
use Rattle.monitor_words.specs.Sentences.{sentence_words, told_verdict}
use Rattle.monitor_words.specs.Words.{waited_event, groups_by, message_line, names_of, wait_alike}
use Rattle.monitor_words.specs.inside.ValueMessages.{shown_listed_line, shown_refusal_words, shown_report_words, shown_resolved_words, shown_told_words}
use Rattle.monitor_words.specs.calls.Values.{names_shown, rows_shown, sentence_shown, state_counts, told_rows_shown, wait_standing}

-- of those that become stuck
abbrev pub JoinsTold : Type 0
JoinsTold =
    (s : TraceState) (was stuck : ℕ → Bool) (f : Participant) (newly : List Participant) (because : StuckBecause) →
    shown_told_words (sentence_shown f because) (told_rows_shown s was stuck f newly because)
    ≡ message_line (told_verdict because ++ sentence_words (codes " waits for ") f because) ++ rows_told s was stuck f newly because

-- of a wait that is refused
abbrev pub JoinsRefusal : Type 0
JoinsRefusal =
    (f : Participant) (because : StuckBecause) →
    shown_refusal_words (sentence_shown f because)
    ≡ message_line (codes "refuse " ++ f.name ++ codes ": " ++ sentence_words (codes " would wait for ") f because)

-- of those that are stuck no more
abbrev pub JoinsResolved : Type 0
JoinsResolved = (us : List Participant) → shown_resolved_words (names_shown us) ≡ message_line (codes "resolved: " ++ names_of us)

-- of a state
abbrev pub JoinsReport : Type 0
JoinsReport =
    (s : TraceState) (stuck : ℕ → Bool) →
    shown_report_words (state_counts s stuck)
    (rows_shown s stuck (groups_by wait_alike (filter (is_kept_waiting s) s.list) (filter (is_kept_waiting s) s.list)))
    ≡ report_words s stuck

-- of a waiting task
abbrev pub JoinsList : Type 0
JoinsList =
    (s : TraceState) (stuck : ℕ → Bool) (t : Participant) →
    shown_listed_line (wait_standing s stuck t) t.name (waited_event t).0 (waited_event t).1 ≡ listed_line s stuck t
