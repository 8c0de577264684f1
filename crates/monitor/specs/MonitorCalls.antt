-- How a call of the monitor ends.
use Rattle.std.specs.Prelude.{◌≡◌, ◌≢◌, ℕ, ◌<◌, Bool, true, false, Option, Some, None, List, [], ◌∷◌, ◌++◌, ◌⊎◌}
use Rattle.armus_base.specs.Causes.{counted}
use Rattle.monitor_words.specs.Messages.{report_words}
use Rattle.monitor_words.specs.Stops.{TellsStuck}
use Rattle.monitor_messages.specs.Runs.{MonitorOptions, MonitorRun, ended_status}
use Rattle.monitor.specs.HeardLines.{HasHeard, HasHeardAll}
use Rattle.monitor.specs.MonitorRequests.{MonitorRequest, Monitors, NoCommand, ShowsHelp, ShowsVersion, monitor_help_lines, monitor_usage_line, monitor_version_line}
use Rattle.monitor.specs.Transfers.{AreWrites, HasReadNoEnd, IsReadToEnd, Transfer, WereRead, bytes_read, bytes_written}

-- these bytes call for this output while the trace goes on, and no line of them stopped the monitor
abbrev pub CallsFor : MonitorOptions → List ℕ → List ℕ → Type 0
CallsFor options bytes output = (run : MonitorRun) × HasHeard options bytes run output × (run.stopped ≡ false)

-- prompt: at each read that did not fail, what was written by then is just what the bytes read by then call for; neither the end of the trace was read before, nor
-- had a line at fault stopped the monitor
abbrev pub IsPrompt : MonitorOptions → List Transfer → Type 0
IsPrompt options log =
    (later before : List Transfer) (bytes : List ℕ) → log ≡ later ++ WereRead bytes ∷ before →
    HasReadNoEnd before × CallsFor options (bytes_read before) (bytes_written before)

-- what some first bytes call for
abbrev pub IsCalledBefore : MonitorOptions → List ℕ → List ℕ → Type 0
IsCalledBefore options bytes output =
    (front : List ℕ) × (behind : List ℕ) × (run : MonitorRun) × (bytes ≡ front ++ behind) × HasHeard options front run output

-- what these bytes call for where a line at fault stops the monitor
abbrev pub IsFaultOutput : MonitorOptions → List ℕ → List ℕ → Type 0
IsFaultOutput options bytes output = (run : MonitorRun) × (run.stopped ≡ true) × HasHeard options bytes run output

-- what a whole trace calls for where its last line, which no LF ends, is at fault and stops the monitor
abbrev pub IsLastFaultOutput : MonitorOptions → List ℕ → List ℕ → Type 0
IsLastFaultOutput options bytes output = (run : MonitorRun) × (run.stopped ≡ true) × HasHeardAll options bytes run output

-- what a whole trace calls for where nothing stops the monitor, with the report of the last state, and the status
pub record IsWholeOutput (options : MonitorOptions) (bytes output : List ℕ) (status : ℕ) : Type 0 where
  pub run : MonitorRun
  pub earlier : List ℕ
  pub heard : HasHeardAll options bytes run earlier
  pub goes_on : run.stopped ≡ false
  pub stuck : ℕ → Bool
  pub tells : TellsStuck run.state stuck
  pub is : output ≡ earlier ++ report_words run.state stuck
  pub ends : status ≡ ended_status run

-- what a whole trace calls for, and the status
abbrev pub IsEndOutput : MonitorOptions → List ℕ → List ℕ → ℕ → Type 0
IsEndOutput options bytes output status = ((status ≡ 3) × IsLastFaultOutput options bytes output) ⊎ IsWholeOutput options bytes output status

-- what some first lines call for: of the bytes that were read, or of the whole trace, without its report
abbrev pub IsOutputOfFront : MonitorOptions → List Transfer → List ℕ → Type 0
IsOutputOfFront options log output =
    IsCalledBefore options (bytes_read log) output ⊎ (IsReadToEnd log × ((run : MonitorRun) × HasHeardAll options (bytes_read log) run output))

-- what the bytes that were read may call for: what some first lines do, or, at the end of the trace, the whole of it
abbrev pub IsSomeOutput : MonitorOptions → List Transfer → List ℕ → Type 0
IsSomeOutput options log output =
    IsOutputOfFront options log output ⊎ (IsReadToEnd log × ((status : ℕ) × IsEndOutput options (bytes_read log) output status))

-- How a call that reads a trace ends: at the end of the trace; at a line at fault; where reading failed, and all was written that was called for; where writing
-- failed, and some first bytes were written of what was called for; for want of memory, and all was written that some first lines call for.
pub data EndsMonitored (options : MonitorOptions) (log : List Transfer) (status : ℕ) : Type 0 where
  at_end : IsReadToEnd log → IsEndOutput options (bytes_read log) (bytes_written log) status → EndsMonitored options log status
  at_fault : status ≡ 3 → IsFaultOutput options (bytes_read log) (bytes_written log) → EndsMonitored options log status
  read_failed : status ≡ 4 → HasReadNoEnd log → CallsFor options (bytes_read log) (bytes_written log) → EndsMonitored options log status
  write_failed : status ≡ 5 → (left : List ℕ) → IsSomeOutput options log (bytes_written log ++ left) → EndsMonitored options log status
  memory_wanting : status ≡ 6 → IsOutputOfFront options log (bytes_written log) → EndsMonitored options log status

-- a call that reads no trace writes this with this status, or some first bytes of it where writing failed
abbrev pub EndsTold : List ℕ → ℕ → List Transfer → ℕ → Type 0
EndsTold words number log status =
    AreWrites log
    × (((bytes_written log ≡ words) × (status ≡ number)) ⊎ ((left : List ℕ) × (bytes_written log ++ left ≡ words) × (status ≡ 5)))

-- how a call ends of which this is asked
abbrev pub EndsAsked : MonitorRequest → List Transfer → ℕ → Type 0
EndsAsked (Monitors options file) log status = IsPrompt options log × EndsMonitored options log status
EndsAsked ShowsHelp log status = EndsTold monitor_help_lines 0 log status
EndsAsked ShowsVersion log status = EndsTold monitor_version_line 0 log status
EndsAsked NoCommand log status = EndsTold monitor_usage_line 2 log status

-- this status comes just where one fault was counted, and else none was
abbrev pub HasFaultAt : ℕ → ℕ → ℕ → ℕ → Type 0
HasFaultAt number before now status = (status ≡ number → now ≡ counted before) × (status ≢ number → now ≡ before)

-- a status that says that the trace was read to its end: 0 and 1, and 3 where lines at fault are passed over
abbrev pub SaysEnd : MonitorOptions → ℕ → Type 0
SaysEnd options status = (status < 2) ⊎ ((options.keeps_going ≡ true) × (status ≡ 3))

-- where it is known what was left to be read, nothing is left
abbrev pub HasNothingLeft : Option (List ℕ) → Option (List ℕ) → Type 0
HasNothingLeft None new = Unit {0}
HasNothingLeft (Some bytes) new = new ≡ Some []

-- where this is asked, and the status says that the trace was read to its end, nothing of it is left
abbrev pub IsReadWhole : MonitorRequest → ℕ → Option (List ℕ) → Option (List ℕ) → Type 0
IsReadWhole (Monitors options file) status old new = SaysEnd options status → HasNothingLeft old new
IsReadWhole ShowsHelp status old new = Unit {0}
IsReadWhole ShowsVersion status old new = Unit {0}
IsReadWhole NoCommand status old new = Unit {0}
