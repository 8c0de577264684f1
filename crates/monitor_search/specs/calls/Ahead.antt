-- What is known of a line before it is taken.
use Rattle.std.specs.Prelude.{◌≡◌, ℕ, List, []}
use Rattle.monitor_laws.specs.Lines.{TraceLine}
use Rattle.monitor_laws.specs.States.{TraceState, after_line}
use Rattle.monitor_laws.specs.Faults.{faults_of}
use Rattle.monitor_search.specs.Known.{AreStuckTasks}

-- after this line, if it is legal, the same are stuck as in the state before it, whoever they are
abbrev pub KeepsWhoeverIsStuck : TraceState → TraceLine → Type 0
KeepsWhoeverIsStuck s l = (known : List (ℕ × List ℕ)) → faults_of s l ≡ [] → AreStuckTasks s known → AreStuckTasks (after_line s l) known
