-- What becomes of a line that is taken, or is at fault.
use Rattle.std.specs.Prelude.{◌≡◌, ℕ, Bool, true, Some, None, List, ◌++◌, ◌↔◌, Result, Ok, Err}
use Rattle.monitor_laws.specs.Faults.{first_fault}
use Rattle.monitor_laws.specs.Lines.{TraceLine}
use Rattle.monitor_laws.specs.States.{TraceState, after_line}
use Rattle.monitor_words.specs.calls.FaultValues.{fault_of_line}
use Rattle.monitor_words.specs.declared.faults.FaultOfLine.{FaultOfLine}
use Rattle.monitor_messages.specs.Runs.{IsMessageOf, TellsSomebody}

-- a line that was taken, with the bytes that it calls for and whether somebody was told or refused; or its first fault, by which nothing changes
abbrev pub IsTaken : Bool → TraceState → TraceLine → TraceState → List ℕ → List ℕ → Result Bool FaultOfLine → Type 0
IsTaken guards s l after old new (Err fault) = (first_fault s (Some l) ≡ Some (fault_of_line fault)) × (after ≡ s) × (new ≡ old)
IsTaken guards s l after old new (Ok told) =
    (first_fault s (Some l) ≡ None)
    × ((taken : TraceLine)
    × (message : List ℕ)
    × IsMessageOf guards s l taken message
    × (after ≡ after_line s taken)
    × (new ≡ old ++ message)
    × ((told ≡ true) ↔ TellsSomebody guards s l taken))
