-- The explanation of the serial avoided run of a text, and the report of `avoid` with one worker.
use Rattle.std.proofs.Common.{◌≡◌, ◌∙◌, ◌++◌, ◌<◌, ℕ, Bool, true, List, [], ap, append_assoc, arith, get_or, inl, inr, length, refl, subst}
use Rattle.std.specs.Prelude.{AllPairs, Contains, Some, if◌then◌else◌, slice_get, slice_index_or}
use Rattle.std.proofs.lemmas.List.Kept.{AllPairs-filter}
use Rattle.std.proofs.lemmas.Option.{get_or_from_slice_get, slice_get-get_or, slice_get_within}
use Rattle.armus_base.specs.declared.ending.TaskEnd.{TaskEnd}
use Rattle.armus_base.specs.declared.ending.TaskEnd.TheVariants as ends
use Rattle.armus_base.specs.declared.event.Event.{Event}
use Rattle.armus_base.specs.declared.ids.TaskId.{TaskId}
use Rattle.armus_base.specs.CheckedPlans.{IsCheckedPlan}
use Rattle.armus_base.specs.Deadlocks.{IsDeadBy}
use Rattle.armus_base.specs.Finals.{end_of, final_of, list_below}
use Rattle.armus_base.specs.Plans.{Plan}
use Rattle.armus_base.specs.Runs.{IsLegalRun, state_after}
use Rattle.armus_base.specs.Serial.{IsSerialAvoidedEnd, IsSerialAvoidedFinal}
use Rattle.armus_base.specs.States.{State}
use Rattle.armus_base.proofs.Below.{length-list_below, list_below-at}
use Rattle.armus_base.proofs.NobodyIsDead.{avoided_legal}
use Rattle.armus_base.proofs.OneSerialEnd.{one_serial_end}
use Rattle.armus_base.proofs.SerialIsAvoided.{serial_is_avoided}
use Rattle.adaptive.specs.declared.analysis.Wanted.{Wanted}
use Rattle.report.specs.Counts.{counts_of}
use Rattle.report.specs.Lines.{counts_line, task_lines}
use Rattle.report.specs.Standings.{AreStandings}
use Rattle.report.specs.declared.standing.Standing.{Standing}
use Rattle.report.specs.declared.standing.Standing.TheVariants as way
use Rattle.report.proofs.OneReport.{one_standings}
use Rattle.explain_avoid.specs.AvoidedWords.{refused_line, somebody_stays, tasks_with, waiting_line, waits_at_the_end, was_refused}
use Rattle.explain_avoid.proofs.StaysTold.{stays_by_standing, task_has, task_with}
use Rattle.explain_deadlock.specs.Paragraphs.{paragraphs}
use Rattle.explain_facts.specs.declared.names.GivenNames.{GivenNames}
use Rattle.explain_tasks.specs.Facts.{facts_of}
use Rattle.program_io.specs.Texts.{Text}
use Rattle.program_io.proofs.OnePlan.{checked_plan, one_plan}
use Rattle.armus_top.specs.Avoids.{IsAvoidOf, TellsRefused, ended_refused}
use Rattle.explain.specs.Avoided.{IsAvoidedOf}
use Rattle.explain.specs.Requests.{Form}
use Rattle.report_laws.specs.Explained.{BeginAlike}
use Rattle.report_laws.specs.ExplainedAvoid.{ExplainsAsAvoid, NamesTheRefused}
use Rattle.report_laws.proofs.ReportedStandings.{stand_as_avoided}

-- ---- who is named as refused

stands_refused : (s : Standing) → was_refused s ≡ true → (e : Event) × (s ≡ way.Refused e)
stands_refused (way.Refused e) on = (e, refl)
stands_refused way.Done on = absurd (cc)
stands_refused (way.Dead e) on = absurd (cc)
stands_refused (way.Held e) on = absurd (cc)
stands_refused way.Unforked on = absurd (cc)

-- the numbers below a bound ascend
below_ascends : (n : ℕ) → AllPairs (λ (t u : TaskId). t.0 < u.0) (list_below (λ k. record { 0 = k }) n)
below_ascends n i j d lt below =
    let task : ℕ → TaskId = λ k. record { 0 = k } in
    let within : j < n = subst (λ k. j < k) (length-list_below task n) below in
    let first : get_or (list_below task n) i d ≡ task i = get_or_from_slice_get (list_below task n) i (task i) d (list_below-at task n i (omega (arith, lt, within))) in
    let second : get_or (list_below task n) j d ≡ task j = get_or_from_slice_get (list_below task n) j (task j) d (list_below-at task n j within) in
    let a : (get_or (list_below task n) i d).0 ≡ i = ap (λ (t : TaskId). t.0) first in
    let b : (get_or (list_below task n) j d).0 ≡ j = ap (λ (t : TaskId). t.0) second in
    omega (arith, a, b, lt)

module _ (standings : List Standing) where
  abbrev refused : List TaskId
  refused = tasks_with was_refused standings

  named_refused : (t : TaskId) → Contains refused t → (e : Event) × (slice_get standings t.0 ≡ Some (way.Refused e))
  named_refused t m =
      let (within, on) = task_with standings was_refused t m in
      let (e, is) = stands_refused (slice_index_or standings t.0 way.Done) on in
      (e, slice_get-get_or standings t.0 way.Done within ∙ ap Some is)

  refused_named : (t : TaskId) (e : Event) → slice_get standings t.0 ≡ Some (way.Refused e) → Contains refused t
  refused_named t e is =
      task_has standings was_refused t (slice_get_within standings t.0 (way.Refused e) is)
      (ap was_refused (get_or_from_slice_get standings t.0 (way.Refused e) way.Done is))

  refused_ascend : AllPairs (λ (t u : TaskId). t.0 < u.0) refused
  refused_ascend =
      AllPairs-filter (λ (t u : TaskId). t.0 < u.0) (λ (t : TaskId). was_refused (slice_index_or standings t.0 way.Done))
      (list_below (λ t. record { 0 = t }) (length standings)) (below_ascends (length standings))

first_of_four : (a b c d : List ℕ) → a ++ b ++ c ++ d ≡ a ++ (b ++ c ++ d)
first_of_four a b c d = simp append_assoc refl

first_of_five : (a b c d e : List ℕ) → a ++ b ++ c ++ d ++ e ≡ a ++ (b ++ c ++ d ++ e)
first_of_five a b c d e = simp append_assoc refl

two_of_five : (a b c d e : List ℕ) → a ++ b ++ c ++ d ++ e ≡ a ++ b ++ (c ++ d ++ e)
two_of_five a b c d e = simp append_assoc refl

refused_end : (x : TaskEnd) → ended_refused x ≡ true → (e : Event) × (x ≡ ends.Refused e)
refused_end (ends.Refused e) is = (e, refl)
refused_end end is = absurd (cc)

module _ (form : Form) (text : Text) (status number : ℕ) (lines report : Text) (g : Wanted) (x : IsAvoidedOf form text status lines)
    (run : IsAvoidOf text 1 g number report) where
  abbrev plan : Plan
  plan = run.plan

  checked : IsCheckedPlan plan
  checked = checked_plan text plan run.plan_is

  plans : x.plan ≡ plan
  plans = one_plan text x.plan plan x.plan_is run.plan_is

  serial : IsSerialAvoidedFinal plan run.state
  serial = run.serial refl

  ended : IsSerialAvoidedEnd plan x.steps
  ended = subst (λ (q : Plan). IsSerialAvoidedEnd q x.steps) plans x.explains.tells.ended

  legal : IsLegalRun plan x.steps
  legal = avoided_legal plan x.steps (serial_is_avoided plan x.steps checked ended.0)

  -- the state that is explained is the one that is reported
  same_state : state_after x.steps ≡ run.state
  same_state =
      ap state_after (one_serial_end plan x.steps serial.steps checked ended serial.ended) ∙ serial.there

  stands : x.explains.tells.standings ≡ run.report_is.standings
  stands =
      let own : AreStandings (IsDeadBy (final_of plan (state_after x.steps)).blocked) (final_of plan (state_after x.steps)).ends x.explains.tells.standings =
      subst (λ (q : Plan). AreStandings (IsDeadBy (final_of q (state_after x.steps)).blocked) (final_of q (state_after x.steps)).ends x.explains.tells.standings)
      plans x.explains.tells.stand in
      one_standings (IsDeadBy (final_of plan run.state).blocked) (final_of plan run.state).ends x.explains.tells.standings run.report_is.standings
      (subst (λ (s : State). AreStandings (IsDeadBy (final_of plan s).blocked) (final_of plan s).ends x.explains.tells.standings) same_state own)
      run.report_is.stand

  -- the names that are told
  abbrev names : GivenNames
  names = x.explains.tells.account.names

  -- the lines, by their parts
  abbrev behind : List Standing → Text
  behind standings =
      waiting_line names (tasks_with waits_at_the_end standings) ++ x.explains.tells.refusals
      ++ paragraphs (facts_of text form.file x.explains.tells.account x.explains.tells.standings) (state_after x.steps).phases []

  begin_alike : BeginAlike run.report_is.standings x.explains.whole report
  begin_alike =
      let own = x.explains.tells.standings in
      let r = run.report_is in
      record {
        rest = refused_line names (tasks_with was_refused own) ++ waiting_line names (tasks_with waits_at_the_end own) ++ x.explains.tells.refusals
            ++ paragraphs (facts_of text form.file x.explains.tells.account own) (state_after x.steps).phases [];
        others = task_lines r.standings ++ r.cycle_text ++ r.graph_text;
        lines_are = x.explains.tells.lines_are
            ∙ first_of_five (counts_line (counts_of own)) (refused_line names (tasks_with was_refused own)) (waiting_line names (tasks_with waits_at_the_end own))
            x.explains.tells.refusals (paragraphs (facts_of text form.file x.explains.tells.account own) (state_after x.steps).phases [])
            ∙ ap (λ s. counts_line (counts_of s) ++ (refused_line names (tasks_with was_refused own) ++ waiting_line names (tasks_with waits_at_the_end own) ++ x.explains.tells.refusals
            ++ paragraphs (facts_of text form.file x.explains.tells.account own) (state_after x.steps).phases [])) stands;
        report_is = r.lines ∙ first_of_four (counts_line (counts_of r.standings)) (task_lines r.standings) r.cycle_text r.graph_text;
      }

  names_the_refused : NamesTheRefused names run.report_is.standings x.explains.whole
  names_the_refused =
      let own = x.explains.tells.standings in
      let s = run.report_is.standings in
      record {
        refused = tasks_with was_refused s;
        rest = behind own;
        lines_are = x.explains.tells.lines_are
            ∙ two_of_five (counts_line (counts_of own)) (refused_line names (tasks_with was_refused own)) (waiting_line names (tasks_with waits_at_the_end own))
            x.explains.tells.refusals (paragraphs (facts_of text form.file x.explains.tells.account own) (state_after x.steps).phases [])
            ∙ ap (λ z. counts_line (counts_of z) ++ refused_line names (tasks_with was_refused z) ++ behind own) stands;
        ascend = refused_ascend s;
        exact = λ t. (named_refused s t, λ named. refused_named s t named.0 named.1);
      }

  status_too : number ≡ 1 → status ≡ 1
  status_too one = by run.status_is
    where
      by : TellsRefused plan run.state number → status ≡ 1
      by (inr none) = absurd (let zero : number ≡ 0 = none.0 in omega (arith, zero, one))
      by (inl some) =
          let t = some.1.0 in
          let (e, is) = refused_end (end_of run.state t) some.1.2 in
          let stands_so = (stand_as_avoided text 1 g number report run t (way.Refused e)).1 (some.1.1, is) in
          let here : slice_get x.explains.tells.standings t ≡ Some (way.Refused e) = ap (λ s. slice_get s t) stands ∙ stands_so in
          let stays : somebody_stays x.explains.tells.standings ≡ true =
          stays_by_standing x.explains.tells.standings (
            t,
            slice_get_within x.explains.tells.standings t (way.Refused e) here,
            inl (ap was_refused (get_or_from_slice_get x.explains.tells.standings t (way.Refused e) way.Done here)),
          ) in
          x.status_is ∙ ap (λ (b : Bool). if b then 1 else 0) (x.explains.tells.tells ∙ stays)

pub explains_as_avoid : ExplainsAsAvoid
explains_as_avoid form text status number lines report g x run = (
  stands form text status number lines report g x run,
  begin_alike form text status number lines report g x run,
  names_the_refused form text status number lines report g x run,
  status_too form text status number lines report g x run,
)
