-- What the code writes of its values: messages, reports and lists.
use Rattle.std.specs.Prelude.{ℕ, List, ◌++◌, codes, decimal}
use Rattle.monitor_words.specs.Words.{message_line}
use Rattle.monitor_words.specs.inside.ValueWords.{shown_names_words, shown_rows_words, shown_sentence_words}
use Rattle.monitor_words.specs.declared.names.ShownNames.{ShownNames}
use Rattle.monitor_words.specs.declared.reports.StateCounts.{StateCounts}
use Rattle.monitor_words.specs.declared.reports.WaitStanding.{WaitStanding}
use Rattle.monitor_words.specs.declared.reports.WaitStanding.TheVariants as w
use Rattle.monitor_words.specs.declared.rows.ShownRows.{ShownRows}
use Rattle.monitor_words.specs.declared.sentences.StuckReason.{StuckReason}
use Rattle.monitor_words.specs.declared.sentences.StuckReason.TheVariants as r
use Rattle.monitor_words.specs.declared.sentences.StuckSentence.{StuckSentence}

-- the word with which a message begins
abbrev pub shown_verdict : StuckReason → List ℕ
shown_verdict (r.InCircle others left) = codes "deadlock: "
shown_verdict (r.EndedKeeps u) = codes "stuck: "
shown_verdict (r.StuckStops u) = codes "stuck: "
shown_verdict (r.SomebodyMissing p n) = codes "stuck: "

-- the message on tasks that become stuck
abbrev pub shown_told_words : StuckSentence → ShownRows → List ℕ
shown_told_words sentence rows =
    message_line (shown_verdict sentence.reason ++ shown_sentence_words (codes " waits for ") sentence) ++ shown_rows_words rows

-- the message on these tasks, which are stuck no more
abbrev pub shown_resolved_words : ShownNames → List ℕ
shown_resolved_words names = message_line (codes "resolved: " ++ shown_names_words names)

-- the first line of a report
abbrev pub shown_tasks_line : StateCounts → List ℕ
shown_tasks_line counts =
    message_line (codes "tasks "
    ++ decimal counts.tasks
    ++ codes " running "
    ++ decimal counts.running
    ++ codes " waiting "
    ++ decimal counts.waiting
    ++ codes " stuck "
    ++ decimal counts.stuck
    ++ codes " ended "
    ++ decimal counts.ended)

-- the bytes of a report from its values
abbrev pub shown_report_words : StateCounts → ShownRows → List ℕ
shown_report_words counts rows = shown_tasks_line counts ++ shown_rows_words rows

-- the word for how a waiting task stands
abbrev pub standing_word : WaitStanding → List ℕ
standing_word w.Stuck = codes "stuck "
standing_word w.Held = codes "held "
standing_word w.Free = codes "free "

-- the line of a list on a task of this name
abbrev pub shown_listed_line : WaitStanding → List ℕ → List ℕ → ℕ → List ℕ
shown_listed_line standing t p n = message_line (standing_word standing ++ t ++ codes " " ++ p ++ codes " " ++ decimal n)

-- the answer to a wait that is refused
abbrev pub shown_refusal_words : StuckSentence → List ℕ
shown_refusal_words sentence = message_line (codes "refuse " ++ sentence.task.name ++ codes ": " ++ shown_sentence_words (codes " would wait for ") sentence)
