-- The explanation of a clock text, and the report of `clock`.
use Rattle.std.specs.Prelude.{◌≡◌, ◌++◌, ℕ, List, codes, decimal}
use Rattle.adaptive.specs.declared.analysis.Wanted.{Wanted}
use Rattle.pl_syntax.specs.Printed.{line}
use Rattle.report.specs.Counts.{counts_of}
use Rattle.report.specs.Lines.{counts_line, cycle_line}
use Rattle.report.specs.declared.standing.Standing.{Standing}
use Rattle.command_line.specs.declared.command.RunKind.TheVariants.{Plain}
use Rattle.program_io.specs.Texts.{Text}
use Rattle.armus_top.specs.ClockRuns.{IsClockRunOf}
use Rattle.explain.specs.ClockExplained.{IsClockExplanationOf}
use Rattle.explain.specs.Requests.{Form}

-- the first line of the explanation has the counts of the report's: tasks are activities, done is ended, dead is waiting, unforked is unstarted, and nobody is
-- held or refused
pub record CountAlike (standings : List Standing) (lines report : Text) : Type 0 where
  pub rest : Text
  pub others : Text
  pub lines_are : lines
      ≡ line
      (codes "activities " ++ decimal (counts_of standings).tasks ++ codes " ended " ++ decimal (counts_of standings).done ++ codes " waiting "
      ++ decimal (counts_of standings).dead
      ++ codes " unstarted "
      ++ decimal (counts_of standings).unforked)
      ++ rest
  pub report_is : report ≡ counts_line (counts_of standings) ++ others
  pub held : (counts_of standings).held ≡ 0
  pub refused : (counts_of standings).refused ≡ 0

-- The whole explanation of a clock text and the report of its run have one status, and the same counts. Where the report has status 1, its cycle line names the
-- activities of the circle that the verdict shows.
abbrev pub ExplainsAsClock : Type 0
ExplainsAsClock =
    (form : Form) (text : Text) (status number : ℕ) (lines report : Text) (g : Wanted) (x : IsClockExplanationOf form text status lines) →
    (r : IsClockRunOf text Plain g number report) → (status ≡ number) × CountAlike r.run.report_is.standings x.explains.whole report
    × (number ≡ 1 → r.run.report_is.cycle_text ≡ cycle_line x.explains.tells.circle)
