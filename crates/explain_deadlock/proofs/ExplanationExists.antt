-- The end of each maximal run of a text's plan has an explanation.
use Rattle.std.proofs.Common.{refl}
use Rattle.adaptive.specs.declared.analysis.Wanted.TheVariants.{Auto}
use Rattle.armus_base.specs.Finals.{final_of}
use Rattle.armus_base.specs.Places.{done_by}
use Rattle.armus_base.specs.Runs.{places, state_after}
use Rattle.explain_facts.proofs.AccountExists.{account_exists}
use Rattle.pl_plan.proofs.TextsAreNear.{text_is_checked}
use Rattle.report.specs.Counts.{counts_of}
use Rattle.report.specs.Lines.{counts_line}
use Rattle.report.proofs.ReportExists.{report_exists}
use Rattle.explain_deadlock.specs.Explanations.{explained_by}
use Rattle.explain_tasks.specs.Facts.{facts_of}
use Rattle.explain_deadlock.specs.calls.Laws.{ExplanationExists}
use Rattle.explain_deadlock.specs.RunEnds.{AreFactsAt, IsAccountOf}
use Rattle.explain_deadlock.specs.Verdicts.{somebody_waits}
use Rattle.explain_deadlock.proofs.FitsEnds.{fits_plan, waits_for_some}
use Rattle.explain_deadlock.proofs.RestsAtEnd.{leads_there, rests_at_end}
use Rattle.explain_deadlock.proofs.VerdictExists.{verdict_exists}

pub explanation_exists : ExplanationExists
explanation_exists file text p plan steps is unfolds run maximal =
    let s = state_after steps in
    let done = done_by (places steps) in
    let there = leads_there plan steps run in
    let (account, known) = account_exists text p plan s done is unfolds there in
    let has : IsAccountOf text plan s done account = record { program = p; unfolds = unfolds; known = known } in
    let (report, reports) = report_exists (final_of plan s) Auto in
    let f = facts_of text file account reports.standings in
    let at : AreFactsAt plan s done f = record { account = has; reached = there; stand = reports.stand } in
    let fits = fits_plan plan s done f at in
    let wait = waits_for_some plan s done f at (rests_at_end plan steps (text_is_checked text p plan is unfolds) run maximal) in
    let (verdict, found) = verdict_exists f s.phases plan fits wait in
    let counts = counts_line (counts_of reports.standings) in (
      explained_by f plan s.phases counts verdict,
      somebody_waits verdict,
      record {
        account = account;
        is_account = has;
        explains = record {
          standings = reports.standings;
          stand = reports.stand;
          explains = record { verdict = verdict; found = found; is_it = refl; tells = refl };
        };
      },
    )
