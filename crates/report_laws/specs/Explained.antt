-- An explanation of a text and the report of its run agree.
use Rattle.std.specs.Prelude.{◌≡◌, ◌++◌, ◌∷◌, ◌≤◌, ℕ, List, length}
use Rattle.armus_base.specs.declared.ids.TaskId.{TaskId}
use Rattle.adaptive.specs.declared.analysis.Wanted.{Wanted}
use Rattle.explain_deadlock.specs.declared.outcome.WaitVerdict.TheVariants.{Circle}
use Rattle.report.specs.Counts.{counts_of}
use Rattle.report.specs.declared.standing.Standing.{Standing}
use Rattle.report.specs.Lines.{counts_line, cycle_line}
use Rattle.program_io.specs.Texts.{Text}
use Rattle.armus_top.specs.Runs.{IsRunOf as IsReportedRun}
use Rattle.explain.specs.Explained.{IsExplanationOf}
use Rattle.explain.specs.Requests.{Form}

-- both begin with the same line, which counts these standings
pub record BeginAlike (standings : List Standing) (lines report : Text) : Type 0 where
  pub rest : Text
  pub others : Text
  pub lines_are : lines ≡ counts_line (counts_of standings) ++ rest
  pub report_is : report ≡ counts_line (counts_of standings) ++ others

-- The whole explanation of a text, and a report of its run, whatever graph is wanted, know one standing of each task, and begin with the same line. Where the report has
-- status 1, so has the explanation, and its verdict shows a circle that begins as the one that the report's cycle line names, and is no longer.
abbrev pub ExplainsAsRun : Type 0
ExplainsAsRun =
    (form : Form) (text : Text) (status number : ℕ) (lines report : Text) (g : Wanted) (e : IsExplanationOf form text status lines)
    (run : IsReportedRun e.plan g number report) →
    (e.explains.tells.explains.standings ≡ run.report_is.standings) × BeginAlike run.report_is.standings e.explains.whole report
    × (number ≡ 1 →
    (status ≡ 1) × (t : TaskId) × (shown cycle : List TaskId) × (run.report_is.cycle_text ≡ cycle_line (t ∷ cycle))
    × (e.explains.tells.explains.explains.verdict ≡ Circle (t ∷ shown)) × (length shown ≤ length cycle))
