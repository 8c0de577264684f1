-- What is put behind a text.
use Rattle.std.specs.Prelude.{◌≡◌, ℕ, List, ◌++◌}
use Rattle.armus_base.specs.declared.status.Status.{Status}
use Rattle.report.specs.Reports.{IsCycleText}

-- the text has gone on with the cycle's line, if there is one
abbrev pub AppendsCycle : List Status → List ℕ → List ℕ → Type 0
AppendsCycle blocked old now = (text : List ℕ) × IsCycleText blocked text × (now ≡ old ++ text)
