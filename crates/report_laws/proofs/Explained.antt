-- An explanation of a text and the report of its run agree.
use Rattle.std.proofs.Common.{◌≡◌, ◌∙◌, ◌++◌, ◌∷◌, ◌≤◌, ℕ, Bool, List, length, true, ap, append_assoc, arith, inl, inr, refl, subst, sym}
use Rattle.std.specs.Prelude.{if◌then◌else◌}
use Rattle.armus_base.specs.Deadlocks.{IsDeadBy, IsDeadIn}
use Rattle.armus_base.specs.declared.ids.TaskId.{TaskId}
use Rattle.armus_base.specs.calls.FinalLaws.{IsOfPlan}
use Rattle.armus_base.specs.Finals.{final_of}
use Rattle.armus_base.specs.Plans.{Plan}
use Rattle.armus_base.specs.Runs.{state_after}
use Rattle.armus_base.specs.States.{State}
use Rattle.armus_base.proofs.DeadByStatuses.{dead_by_final, run_is_of_plan}
use Rattle.adaptive.specs.declared.analysis.Wanted.{Wanted}
use Rattle.explain_facts.specs.RunStates.{done_after}
use Rattle.explain_deadlock.specs.declared.outcome.WaitVerdict.TheVariants.{Circle}
use Rattle.explain_deadlock.specs.Notes.{verdict_end}
use Rattle.explain_deadlock.specs.Paragraphs.{paragraphs}
use Rattle.explain_deadlock.specs.RunEnds.{AreFactsAt}
use Rattle.explain_deadlock.specs.VerdictWords.{verdict_line}
use Rattle.explain_deadlock.specs.Verdicts.{shown_of, somebody_waits}
use Rattle.explain_deadlock.proofs.DeadlockShown.{deadlock_is_reported}
use Rattle.explain_deadlock.proofs.RestsAtEnd.{leads_there}
use Rattle.report.specs.Counts.{counts_of}
use Rattle.report.specs.Lines.{counts_line, cycle_line, task_lines}
use Rattle.report.specs.Reports.{IsCycleText, IsSomeDead}
use Rattle.report.specs.Standings.{AreStandings}
use Rattle.report.proofs.OneReport.{one_cycle_text, one_standings}
use Rattle.explain_tasks.specs.Facts.{FactsValue, facts_of}
use Rattle.program_io.specs.Texts.{Text}
use Rattle.armus_top.specs.DeadStatus.{TellsDead}
use Rattle.armus_top.specs.Runs.{IsRunOf as IsReportedRun}
use Rattle.program_io.proofs.OnePlan.{checked_plan}
use Rattle.report_laws.specs.Explained.{BeginAlike, ExplainsAsRun}
use Rattle.explain.specs.Explained.{IsExplanationOf}
use Rattle.explain.specs.Requests.{Form}

pub some_dead : (state : State) (number : ℕ) → TellsDead state number → number ≡ 1 → (t : ℕ) × IsDeadIn state t
some_dead state number (inl (one, dead)) is = dead
some_dead state number (inr (zero, nobody)) is = absurd (omega (arith, zero, is))

first_of_four : (a b c d : List ℕ) → a ++ b ++ c ++ d ≡ a ++ (b ++ c ++ d)
first_of_four a b c d = simp append_assoc refl

module _ (form : Form) (text : Text) (status number : ℕ) (lines report : Text) (g : Wanted) (e : IsExplanationOf form text status lines)
    (run : IsReportedRun e.plan g number report) where
  abbrev plan : Plan
  plan = e.plan

  abbrev s : State
  s = state_after e.steps

  -- the state that is explained is the one that is reported
  same_state : run.state ≡ s
  same_state = sym (run.every e.steps e.ended.run e.ended.maximal)

  of_plan : IsOfPlan plan run.state
  of_plan =
      subst (IsOfPlan plan) (run.every e.steps e.ended.run e.ended.maximal)
      (run_is_of_plan plan e.steps (checked_plan text plan e.ended.plan_is) e.ended.run.0)

  stands : run.report_is.standings ≡ e.explains.tells.explains.standings
  stands =
      let x = e.explains.tells.explains in
      one_standings (IsDeadBy (final_of plan run.state).blocked) (final_of plan run.state).ends run.report_is.standings x.standings run.report_is.stand
      (subst (λ (s : State). AreStandings (IsDeadBy (final_of plan s).blocked) (final_of plan s).ends x.standings) (sym same_state) x.stand)

  begin_alike : BeginAlike run.report_is.standings e.explains.whole report
  begin_alike =
      let x = e.explains.tells.explains in
      let f = facts_of text form.file e.explains.tells.account x.standings in
      let v = x.explains.verdict in
      let r = run.report_is in
      record {
        rest = verdict_line f v ++ paragraphs f s.phases (shown_of v) ++ verdict_end f plan s.phases v;
        others = task_lines r.standings ++ r.cycle_text ++ r.graph_text;
        lines_are = x.explains.is_it
            ∙ first_of_four (counts_line (counts_of x.standings)) (verdict_line f v) (paragraphs f s.phases (shown_of v))
            (verdict_end f plan s.phases v)
            ∙ ap
            (λ ss. counts_line (counts_of ss) ++ (verdict_line f v ++ paragraphs f s.phases (shown_of v) ++ verdict_end f plan s.phases v))
            (sym stands);
        report_is = r.lines ∙ first_of_four (counts_line (counts_of r.standings)) (task_lines r.standings) r.cycle_text r.graph_text;
      }

  abbrev facts : FactsValue
  facts = facts_of text form.file e.explains.tells.account e.explains.tells.explains.standings

  facts_at : AreFactsAt plan s (done_after e.steps) facts
  facts_at =
      record { account = e.explains.tells.is_account; reached = leads_there plan e.steps e.ended.run.0; stand = e.explains.tells.explains.stand }

  -- some task is dead where the report has status 1
  dead_there : number ≡ 1 → IsSomeDead (final_of plan s).blocked
  dead_there one =
      let (t, dead) = some_dead run.state number run.status_is one in
      subst (λ (s : State). IsSomeDead (final_of plan s).blocked) same_state (t, (dead_by_final plan run.state t of_plan).1 dead)

  shows_circle : number ≡ 1 →
      (t : TaskId) × (shown cycle : List TaskId) × (run.report_is.cycle_text ≡ cycle_line (t ∷ cycle)) × (e.explains.tells.explains.explains.verdict ≡ Circle (t ∷ shown))
      × (length shown ≤ length cycle)
  shows_circle one =
      let x = e.explains.tells.explains.explains in
      let (t, shown, cycle, is, reported, short) = deadlock_is_reported plan s (done_after e.steps) facts x.verdict facts_at x.found (dead_there one) in
      let told : IsCycleText (final_of plan s).blocked run.report_is.cycle_text =
      subst (λ (s : State). IsCycleText (final_of plan s).blocked run.report_is.cycle_text) same_state run.report_is.cycle in
      (t, shown, cycle, one_cycle_text (final_of plan s).blocked run.report_is.cycle_text (cycle_line (t ∷ cycle)) told (inr (t ∷ cycle, reported, refl)), is, short)

  status_too : number ≡ 1 → status ≡ 1
  status_too one =
      let x = e.explains.tells.explains.explains in
      let (t, shown, cycle, line, is, short) = shows_circle one in
      let waits : e.waits ≡ true = x.tells ∙ ap somebody_waits is in
      e.status_is ∙ ap (λ (b : Bool). if b then 1 else 0) waits

pub explains_as_run : ExplainsAsRun
explains_as_run form text status number lines report g e run = (
  sym (stands form text status number lines report g e run),
  begin_alike form text status number lines report g e run,
  λ one.
      let (t, shown, cycle, line, is, short) = shows_circle form text status number lines report g e run one in
      (status_too form text status number lines report g e run one, t, shown, cycle, line, is, short),
)
