-- A listener in the midst of a trace.
use Rattle.std.specs.Prelude.{◌≡◌, ℕ, List, ◌++◌, take}
use Rattle.armus_base.specs.Causes.{counted}
use Rattle.monitor_messages.specs.Runs.{IsMonitorRunOf, MonitorOptions, MonitorRun}
use Rattle.monitor.specs.HeardLines.{AreHeardLines, called_lines}
use Rattle.monitor.specs.Transfers.{Transfer, bytes_written}
use Rattle.monitor.specs.declared.hearing.HearFault.{HearFault}
use Rattle.monitor.specs.declared.hearing.HearFault.TheVariants.{NoMemory, WriteFailed}

-- what a listener knows, and the first 512 bytes of the line that is not whole yet
pub record Heard : Type 0 where
  pub run : MonitorRun
  pub line : List ℕ

-- these bytes lead to what the listener has, and call for this output
pub record IsListening (options : MonitorOptions) (bytes output : List ℕ) (heard : Heard) : Type 0 where
  pub lines : List (List ℕ)
  pub rest : List ℕ
  pub cut : AreHeardLines bytes lines rest
  pub leads : IsMonitorRunOf options (called_lines lines rest) heard.run output
  pub front : heard.line ≡ take 512 rest

-- these bytes more lead from there to here, and call for this output more
abbrev pub HearsBytes : Heard → List ℕ → List ℕ → Heard → Type 0
HearsBytes old bytes output new =
    (options : MonitorOptions) (heard earlier : List ℕ) → IsListening options heard earlier old → IsListening options (heard ++ bytes) (earlier ++ output) new

-- some first bytes of a piece were heard; of what they call for all was written but what is left
pub record StopsHearing (old : Heard) (piece : List ℕ) (log : List Transfer) (left : List ℕ) : Type 0 where
  pub front : List ℕ
  pub behind : List ℕ
  pub piece_is : piece ≡ front ++ behind
  pub between : Heard
  pub hears : HearsBytes old front (bytes_written log ++ left) between

-- where memory is wanting no write failed, and else one
abbrev pub HasHearCause : HearFault → ℕ → ℕ → Type 0
HasHearCause NoMemory before now = now ≡ before
HasHearCause WriteFailed before now = now ≡ counted before

-- the number with which the monitor ends by a fault
abbrev pub number_of_hear_fault : HearFault → ℕ
number_of_hear_fault NoMemory = 6
number_of_hear_fault WriteFailed = 5
