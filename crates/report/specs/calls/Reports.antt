-- The report of a final state.
use Rattle.std.specs.Prelude.{◌≡◌, ℕ, List, []}
use Rattle.armus_base.specs.declared.ending.Final.{Final}
use Rattle.adaptive.specs.declared.analysis.Wanted.{Wanted}
use Rattle.report.specs.Reports.{IsReport}

-- there is one report of a final state only
abbrev pub OneReport : Type 0
OneReport = (end : Final) (wanted : Wanted) (a b : List ℕ) → IsReport end wanted a → IsReport end wanted b → a ≡ b

-- and there is one, of every final state, whatever graph is wanted
abbrev pub ReportExists : Type 0
ReportExists = (end : Final) (wanted : Wanted) → (text : List ℕ) × IsReport end wanted text
