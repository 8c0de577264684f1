-- The explanation of the serial avoided run of a text, and the report of `avoid` with one worker.
use Rattle.std.specs.Prelude.{◌≡◌, ◌↔◌, ◌<◌, ◌++◌, ℕ, AllPairs, Contains, List, Some, slice_get}
use Rattle.armus_base.specs.declared.event.Event.{Event}
use Rattle.armus_base.specs.declared.ids.TaskId.{TaskId}
use Rattle.adaptive.specs.declared.analysis.Wanted.{Wanted}
use Rattle.report.specs.Counts.{counts_of}
use Rattle.report.specs.Lines.{counts_line}
use Rattle.report.specs.declared.standing.Standing.{Standing}
use Rattle.report.specs.declared.standing.Standing.TheVariants.{Refused}
use Rattle.explain_facts.specs.declared.names.GivenNames.{GivenNames}
use Rattle.explain_avoid.specs.AvoidedWords.{refused_line}
use Rattle.program_io.specs.Texts.{Text}
use Rattle.armus_top.specs.Avoids.{IsAvoidOf}
use Rattle.explain.specs.Avoided.{IsAvoidedOf}
use Rattle.explain.specs.Requests.{Form}
use Rattle.report_laws.specs.Explained.{BeginAlike}

-- the second line, behind the counts of these standings, names, with these names, just the tasks that stand as refused, in order of number
pub record NamesTheRefused (names : GivenNames) (standings : List Standing) (lines : Text) : Type 0 where
  pub refused : List TaskId
  pub rest : Text
  pub lines_are : lines ≡ counts_line (counts_of standings) ++ refused_line names refused ++ rest
  pub ascend : AllPairs (λ t u. t.0 < u.0) refused
  pub exact : (t : TaskId) → Contains refused t ↔ ((e : Event) × (slice_get standings t.0 ≡ Some (Refused e)))

-- The whole explanation of the serial avoided run of a text, and a report of `avoid` with one worker, know one standing of each task, and begin with the same line. The
-- explanation's second line names the tasks that the report has as refused, and where the report has status 1, so has the explanation.
abbrev pub ExplainsAsAvoid : Type 0
ExplainsAsAvoid =
    (form : Form) (text : Text) (status number : ℕ) (lines report : Text) (g : Wanted) (x : IsAvoidedOf form text status lines)
    (run : IsAvoidOf text 1 g number report) →
    (x.explains.tells.standings ≡ run.report_is.standings) × BeginAlike run.report_is.standings x.explains.whole report
    × NamesTheRefused x.explains.tells.account.names run.report_is.standings x.explains.whole × (number ≡ 1 → status ≡ 1)
