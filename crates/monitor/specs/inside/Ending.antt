-- The end of a trace, and a call that has come so far.
use Rattle.std.specs.Prelude.{◌≡◌, ℕ, Bool, false, List, [], ◌++◌, ◌⊎◌}
use Rattle.monitor_words.specs.Messages.{report_words}
use Rattle.monitor_words.specs.Stops.{TellsStuck}
use Rattle.monitor_messages.specs.Runs.{MonitorOptions, MonitorRun, ended_status}
use Rattle.monitor.specs.HeardLines.{HasHeardAll}
use Rattle.monitor.specs.MonitorCalls.{IsEndOutput, IsPrompt}
use Rattle.monitor.specs.Transfers.{HasReadNoEnd, Transfer, bytes_read, bytes_written}
use Rattle.monitor.specs.inside.Listening.{Heard, IsListening}

-- whoever has listened so far and hears the end of the trace writes these words and ends with this status
abbrev pub EndsWithWords : Heard → List ℕ → ℕ → Type 0
EndsWithWords heard words status =
    (options : MonitorOptions) (bytes earlier : List ℕ) → IsListening options bytes earlier heard → IsEndOutput options bytes (earlier ++ words) status

-- whoever has listened so far and hears the end of the trace writes this for its last line, which no LF ends
abbrev pub EndsWithLine : Heard → List ℕ → Type 0
EndsWithLine heard words =
    (options : MonitorOptions) (bytes earlier : List ℕ) → IsListening options bytes earlier heard → (run : MonitorRun) × HasHeardAll options bytes run (earlier ++ words)

-- all of it is written; or some first bytes, where writing failed; or nothing, or what the last line calls for, for want of memory
abbrev pub EndsTrace : Heard → List ℕ → ℕ → Type 0
EndsTrace heard written status =
    EndsWithWords heard written status
    ⊎ ((status ≡ 5) × ((left : List ℕ) × (EndsWithLine heard (written ++ left) ⊎ ((whole : ℕ) × EndsWithWords heard (written ++ left) whole))))
    ⊎ ((status ≡ 6) × ((written ≡ []) ⊎ EndsWithLine heard written))

-- these words are the report of the state
abbrev pub IsReportOf : MonitorRun → List ℕ → Type 0
IsReportOf run words = (stuck : ℕ → Bool) × TellsStuck run.state stuck × (words ≡ report_words run.state stuck)

-- behind the last line: the report of the state with the status; or some first bytes of it, where writing failed; or nothing, for want of memory
abbrev pub EndsReport : MonitorRun → List ℕ → ℕ → Type 0
EndsReport run written status =
    (IsReportOf run written × (status ≡ ended_status run))
    ⊎ ((status ≡ 5) × ((left : List ℕ) × IsReportOf run (written ++ left)))
    ⊎ ((status ≡ 6) × (written ≡ []))

-- a call that has come so far, and goes on
pub record HasListened (options : MonitorOptions) (log : List Transfer) (heard : Heard) : Type 0 where
  pub prompt : IsPrompt options log
  pub no_end : HasReadNoEnd log
  pub listening : IsListening options (bytes_read log) (bytes_written log) heard
  pub goes_on : heard.run.stopped ≡ false
