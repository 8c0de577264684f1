-- What the words behind the program's name ask of the monitor.
use Rattle.std.specs.Prelude.{ℕ, Bool, true, false, not, ◌==◌, if◌then◌else◌, List, [], ◌∷◌, ◌++◌, codes, Option, Some, None}
use Rattle.std.specs.Str.{bytes_eq}
use Rattle.monitor_words.specs.Words.{message_line}
use Rattle.monitor_messages.specs.Runs.{MonitorOptions}

-- to monitor a trace, of the file with this name or of standard input; the lines of help; the line of the version; or nothing
pub data MonitorRequest : Type 0 where
  Monitors : (options : MonitorOptions) (file : Option (List ℕ)) → MonitorRequest
  ShowsHelp : MonitorRequest
  ShowsVersion : MonitorRequest
  NoCommand : MonitorRequest

-- the word can name a file: it is not empty and does not begin with a hyphen
abbrev pub may_name_trace : List ℕ → Bool
may_name_trace [] = false
may_name_trace (first ∷ more) = not (first == 45)

-- what the words behind the options ask for
abbrev pub trace_asked : MonitorOptions → List (List ℕ) → MonitorRequest
trace_asked options [] = Monitors options None
trace_asked options (word ∷ []) = if may_name_trace word then Monitors options (Some word) else NoCommand
trace_asked options words = NoCommand

-- what the words behind --guard ask for, or behind where it would stand
abbrev pub asked_behind_guard : Bool → List (List ℕ) → MonitorRequest
asked_behind_guard guards [] = trace_asked (record { guards = guards; keeps_going = false }) []
asked_behind_guard guards (word ∷ words) =
    if bytes_eq word (codes "--keep-going") then trace_asked (record { guards = guards; keeps_going = true }) words
    else trace_asked (record { guards = guards; keeps_going = false }) (word ∷ words)

-- what the words ask for that are not one of help or of the version alone
abbrev pub monitor_asked_of : List (List ℕ) → MonitorRequest
monitor_asked_of [] = asked_behind_guard false []
monitor_asked_of (word ∷ words) = if bytes_eq word (codes "--guard") then asked_behind_guard true words else asked_behind_guard false (word ∷ words)

-- what one word asks for
abbrev pub word_asked_of_monitor : List ℕ → MonitorRequest
word_asked_of_monitor word =
    if bytes_eq word (codes "--help") then ShowsHelp
    else (if bytes_eq word (codes "--version") then ShowsVersion else monitor_asked_of (word ∷ []))

-- what the words ask for
abbrev pub monitor_asked : List (List ℕ) → MonitorRequest
monitor_asked (word ∷ []) = word_asked_of_monitor word
monitor_asked words = monitor_asked_of words

-- the line of usage
abbrev pub monitor_usage_line : List ℕ
monitor_usage_line = message_line (codes "usage: armus_monitor [--guard] [--keep-going] [FILE]")

-- the lines of help
abbrev pub monitor_help_lines : List ℕ
monitor_help_lines =
    monitor_usage_line
    ++ message_line (codes "Reads what the tasks of a running program announce, a line for each event, from")
    ++ message_line (codes "FILE, or from standard input where there is none, and tells at once who is stuck")
    ++ message_line (codes "for ever, and why, while the others go on. At the end it writes who waits for whom.")
    ++ message_line (codes "With --guard it answers each wait with wait or refuse, so that no wait makes anybody")
    ++ message_line (codes "stuck. With --keep-going it tells a line at fault and passes it over.")
    ++ message_line (codes "Status: 0 nobody is kept waiting at the end, and nobody was told or refused before,")
    ++ message_line (codes "1 somebody is or was, 2 other words, 3 a line was at fault, 4 it cannot be read,")
    ++ message_line (codes "5 it cannot be written, 6 no memory.")

-- the line of the version
abbrev pub monitor_version_line : List ℕ
monitor_version_line = message_line (codes "armus_monitor 2.0.0")
