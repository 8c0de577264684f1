-- What holds of what traces call for: bytes are cut into lines in one way, and call for one output with one status.
use Rattle.std.specs.Prelude.{◌≡◌, ℕ, List}
use Rattle.monitor_messages.specs.Runs.{MonitorOptions, MonitorRun}
use Rattle.monitor.specs.HeardLines.{AreHeardLines, HasHeard, HasHeardAll}
use Rattle.monitor.specs.MonitorCalls.{IsEndOutput}

-- bytes are some whole lines, and what stands behind the last LF
abbrev pub HasSomeCut : Type 0
HasSomeCut = (bytes : List ℕ) → (lines : List (List ℕ)) × (rest : List ℕ) × AreHeardLines bytes lines rest

-- and they are so in one way
abbrev pub HasOneCut : Type 0
HasOneCut =
    (bytes : List ℕ) (lines others : List (List ℕ)) (rest more : List ℕ) → AreHeardLines bytes lines rest → AreHeardLines bytes others more →
    (lines ≡ others) × (rest ≡ more)

-- bytes, behind which the trace goes on, lead to one run and call for one output
abbrev pub HasOneHeardOutput : Type 0
HasOneHeardOutput =
    (options : MonitorOptions) (bytes : List ℕ) (one other : MonitorRun) (first second : List ℕ) → HasHeard options bytes one first →
    HasHeard options bytes other second → (one ≡ other) × (first ≡ second)

-- so do those with which it ends
abbrev pub HasOneLastOutput : Type 0
HasOneLastOutput =
    (options : MonitorOptions) (bytes : List ℕ) (one other : MonitorRun) (first second : List ℕ) → HasHeardAll options bytes one first →
    HasHeardAll options bytes other second → (one ≡ other) × (first ≡ second)

-- a whole trace calls for one output, with one status
abbrev pub HasOneWholeOutput : Type 0
HasOneWholeOutput =
    (options : MonitorOptions) (bytes : List ℕ) (one other : List ℕ) (first second : ℕ) → IsEndOutput options bytes one first →
    IsEndOutput options bytes other second → (one ≡ other) × (first ≡ second)
