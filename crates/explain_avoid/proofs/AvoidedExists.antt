-- A run that avoids deadlock has an explanation.
use Rattle.std.proofs.Common.{◌≡◌, ℕ, List, [], ◌∷◌, ◌++◌, Option, Some, None, inl, inr, refl, subst}
use Rattle.adaptive.specs.declared.analysis.Wanted.TheVariants.{Auto}
use Rattle.armus_base.specs.declared.event.Event.{Event}
use Rattle.armus_base.specs.declared.ids.TaskId.{TaskId}
use Rattle.armus_base.specs.declared.status.Status.{Status}
use Rattle.armus_base.specs.Avoidance.{Avoids, IsAvoidedRun}
use Rattle.armus_base.specs.CheckedPlans.{IsCheckedPlan}
use Rattle.armus_base.specs.Deadlocks.{WouldBeDead}
use Rattle.armus_base.specs.calls.FinalLaws.{IsOfPlan}
use Rattle.armus_base.specs.Finals.{final_of}
use Rattle.armus_base.specs.Places.{done_by}
use Rattle.armus_base.specs.Plans.{Action, Advances, Aim, Blocks, Drops, Forks, Makes, Passes, Plan, Refuses, Registers}
use Rattle.armus_base.specs.Runs.{IsByCode, IsLegalRun, IsNextStep, places, state_after}
use Rattle.armus_base.specs.States.{Step, awaited, if_published, updated}
use Rattle.armus_base.proofs.DeadByStatuses.{dead_by_final, run_is_of_plan}
use Rattle.armus_base.proofs.NobodyIsDead.{avoided_legal}
use Rattle.armus_base.proofs.SerialIsAvoided.{serial_is_avoided}
use Rattle.pl_core.specs.calls.Awaiting.{awaited_statuses}
use Rattle.pl_syntax.specs.declared.tree.Program.{Program}
use Rattle.explain_facts.specs.Accounts.{Layout}
use Rattle.explain_facts.proofs.AccountExists.{account_exists}
use Rattle.explain_facts.proofs.LayoutExists.{layout_exists}
use Rattle.pl_plan.proofs.TextsAreNear.{text_is_checked}
use Rattle.explain_deadlock.proofs.RestsAtEnd.{leads_there}
use Rattle.report.specs.Reports.{IsCycleText, IsReportedCycle, IsSomeDead}
use Rattle.report.proofs.CycleExists.{cycle_exists}
use Rattle.report.proofs.ReportExists.{report_exists}
use Rattle.explain_tasks.specs.Facts.{facts_of}
use Rattle.explain_avoid.specs.AvoidedWords.{avoided_words, somebody_stays}
use Rattle.explain_avoid.specs.RefusalWords.{refusal_words}
use Rattle.explain_avoid.specs.Refusals.{AreRefusals, IsTold}
use Rattle.explain_avoid.specs.calls.Laws.{AvoidedExplanationExists}
use Rattle.explain_avoid.proofs.OpsKept.{at_op, op_at}
use Rattle.explain_avoid.proofs.Releasing.{released_exist}

-- where a task is dead there is a cycle
a_cycle : (blocked : List Status) → IsSomeDead blocked → (cycle : List TaskId) × IsReportedCycle blocked cycle
a_cycle blocked some = by_text (cycle_exists blocked)
  where
    by_text : (text : List ℕ) × IsCycleText blocked text → (cycle : List TaskId) × IsReportedCycle blocked cycle
    by_text (text, inl none) = absurd (none.0 some)
    by_text (text, inr (cycle, is, line)) = (cycle, is)

module _ (plan : Plan) (checked : IsCheckedPlan plan) (h : List Step) (run : IsLegalRun plan h) (t : ℕ) (aim : Aim)
    (next : IsNextStep plan h (record { task = t; action = Refuses aim })) where
  -- who is refused might as well block
  might_block : IsNextStep plan h (record { task = t; action = Blocks aim })
  might_block = record { legal = next.legal; by_code = by_place (places h t).done (places h t).dropped next.by_code }
    where
      by_place : (k : ℕ) (o : Option ℕ) → IsByCode plan t k o (Refuses aim) → IsByCode plan t k o (Blocks aim)
      by_place k None code = code
      by_place k (Some q) code = absurd code

  module _ (e : Event) (awaits : awaited (Some (Blocks aim)) ((state_after h).phases t) ≡ Some e) where
    supposed : IsOfPlan plan (if_published (state_after h) t e)
    supposed =
        subst (λ (o : Option Event). IsOfPlan plan (record (state_after h) { published = updated (state_after h).published t o })) awaits
        (run_is_of_plan plan (record { task = t; action = Blocks aim } ∷ h) checked (run, might_block))

    dead_there : WouldBeDead (state_after h) t e → IsSomeDead (awaited_statuses plan (if_published (state_after h) t e))
    dead_there dead = (t, (dead_by_final plan (if_published (state_after h) t e) t supposed).1 dead)

module _ (file : Option (List ℕ)) (l : Layout) (p : Program) (plan : Plan) (checked : IsCheckedPlan plan) where
  -- what is told of a step
  a_text : (h : List Step) → IsLegalRun plan h → (t : ℕ) (x : Action) → IsNextStep plan h (record { task = t; action = x }) → Avoids (state_after h) t x
      → (text : List ℕ) × IsTold file l p plan h t x text
  a_text h run t (Refuses aim) next (e, awaits, dead) =
      let (cycle, is) = a_cycle (awaited_statuses plan (if_published (state_after h) t e)) (dead_there plan checked h run t aim next e awaits dead) in
      let (released, go_on) = released_exist plan (state_after h) t (run_is_of_plan plan h checked run) in (
        refusal_words file l p plan (state_after h) t e (op_at plan (places h)) cycle released,
        record {
          ops = op_at plan (places h);
          stand = at_op plan (places h);
          event = e;
          awaits = awaits;
          cycle = cycle;
          closes = is;
          released = released;
          go_on = go_on;
          text_is = refl;
        },
      )
  a_text h run t (Makes q) next avoids = ([], refl)
  a_text h run t (Registers c q) next avoids = ([], refl)
  a_text h run t (Forks c) next avoids = ([], refl)
  a_text h run t (Advances q) next avoids = ([], refl)
  a_text h run t (Drops q) next avoids = ([], refl)
  a_text h run t (Blocks aim) next avoids = ([], refl)
  a_text h run t (Passes q) next avoids = ([], refl)

  texts : (h : List Step) → IsAvoidedRun plan h → (text : List ℕ) × AreRefusals file l p plan h text
  texts [] run = ([], refl)
  texts (e ∷ h) run =
      let (before, are) = texts h run.0 in
      let (own, is) = a_text h (avoided_legal plan h run.0) e.task e.action run.1 run.2 in
      (before ++ own, (before, own, are, is, refl))

pub avoided_explanation_exists : AvoidedExplanationExists
avoided_explanation_exists file text p plan steps is unfolds ended =
    let checked = text_is_checked text p plan is unfolds in
    let run = serial_is_avoided plan steps checked ended.0 in
    let (layout, of_text, is_layout) = layout_exists text p is in
    let (refusals, each) = texts file layout p plan checked steps run in
    let there = leads_there plan steps (avoided_legal plan steps run) in
    let s = state_after steps in
    let (account, known) = account_exists text p plan s (done_by (places steps)) is unfolds there in
    let (report, reports) = report_exists (final_of plan s) Auto in (
      avoided_words (facts_of text file account reports.standings) s.phases refusals,
      somebody_stays reports.standings,
      record {
        ended = ended;
        program = p;
        refusals = refusals;
        are_refusals = record { reads = is; layout = layout; of_text = of_text; is_layout = is_layout; each = each };
        account = account;
        is_account = record { program = p; unfolds = unfolds; known = known };
        standings = reports.standings;
        stand = reports.stand;
        lines_are = refl;
        tells = refl;
      },
    )
