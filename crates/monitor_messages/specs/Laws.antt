-- What holds of runs: lines lead to one run and call for one output, and a run is of a legal trace.
use Rattle.std.specs.Prelude.{◌≡◌, ℕ, true, false, Option, Some, List, [], ◌∷◌, ◌⊎◌}
use Rattle.monitor_laws.specs.Faults.{LineFault, faults_of, first_fault}
use Rattle.monitor_laws.specs.Guards.{IsGuarded}
use Rattle.monitor_laws.specs.Lines.{TraceLine}
use Rattle.monitor_laws.specs.States.{after_lines}
use Rattle.monitor_laws.specs.Traces.{IsLegalTrace}
use Rattle.trace_lines.specs.Grammar.{IsLine}
use Rattle.monitor_messages.specs.Runs.{IsMonitorRunOf, MonitorOptions, MonitorRun, SaysLine}

-- lines lead to one run and call for one output
abbrev pub HasOneRun : Type 0
HasOneRun =
    (options : MonitorOptions) (lines : List (List ℕ)) (one other : MonitorRun) (first second : List ℕ) → IsMonitorRunOf options lines one first →
    IsMonitorRunOf options lines other second → (one ≡ other) × (first ≡ second)

-- these bytes are left out of the trace: a line at fault ended it all before, or they are at fault
abbrev pub IsLeftOut : MonitorRun → List ℕ → Type 0
IsLeftOut was bytes =
    (was.stopped ≡ true) ⊎ ((said : Option TraceLine) × (fault : LineFault) × SaysLine bytes said × (first_fault was.state said ≡ Some fault))

-- these bytes say this line, which is legal, and nothing ended it all before
abbrev pub IsTraceLineOf : MonitorRun → List ℕ → TraceLine → Type 0
IsTraceLineOf was bytes l = (was.stopped ≡ false) × IsLine bytes l × (faults_of was.state l ≡ [])

-- the trace of these lines of bytes, the last first: what each of them says, without those that are left out
abbrev pub IsTraceOf : MonitorOptions → List (List ℕ) → List TraceLine → Type 0
IsTraceOf options [] all = all ≡ []
IsTraceOf options (bytes ∷ before) all =
    (was : MonitorRun) × (earlier : List ℕ) × IsMonitorRunOf options before was earlier
    × ((IsLeftOut was bytes × IsTraceOf options before all)
    ⊎ ((l : TraceLine) × (others : List TraceLine) × IsTraceLineOf was bytes l × IsTraceOf options before others × (all ≡ l ∷ others)))

-- a run is of a trace, of which, with the guard as it answers, stands a legal one; its state is the one to which that leads
abbrev pub RunsHaveTraces : Type 0
RunsHaveTraces =
    (options : MonitorOptions) (lines : List (List ℕ)) (run : MonitorRun) (output : List ℕ) → IsMonitorRunOf options lines run output →
    (all : List TraceLine) × (h : List TraceLine) × IsTraceOf options lines all × (run.state ≡ after_lines h) × IsLegalTrace h
    × (options.guards ≡ false → all ≡ h) × (options.guards ≡ true → IsGuarded all h)

-- lines of bytes have one trace
abbrev pub HasOneTrace : Type 0
HasOneTrace =
    (options : MonitorOptions) (lines : List (List ℕ)) (all other : List TraceLine) → IsTraceOf options lines all → IsTraceOf options lines other → all ≡ other
