-- The serial avoided run of a text is explained.
use Rattle.std.proofs.Common.{◌≡◌, ◌∙◌, ℕ, List, Option, ap, length, sym, subst}
use Rattle.armus_base.specs.declared.ending.Final.{Final}
use Rattle.armus_base.specs.CheckedPlans.{IsCheckedPlan}
use Rattle.armus_base.specs.Deadlocks.{IsDeadBy}
use Rattle.armus_base.specs.Finals.{end_of, final_of, list_below}
use Rattle.armus_base.specs.Places.{done_by, state_at}
use Rattle.armus_base.specs.Plans.{Plan}
use Rattle.armus_base.specs.Runs.{Place, state_after}
use Rattle.armus_base.specs.States.{State}
use Rattle.armus_base.proofs.NobodyIsDead.{avoided_legal}
use Rattle.armus_base.proofs.PlacesFixState.{places_fix_state}
use Rattle.armus_base.proofs.SerialIsAvoided.{serial_is_avoided}
use Rattle.pl_core.specs.calls.Worlds.{places_of, state_of}
use Rattle.pl_plan.proofs.TextsAreNear.{text_is_checked}
use Rattle.pl_syntax.specs.declared.tree.Program.{Program}
use Rattle.explain_facts.specs.declared.account.Account.{Account}
use Rattle.explain_deadlock.specs.RunEnds.{IsAccountOf}
use Rattle.report.specs.Standings.{AreStandings}
use Rattle.explain_tasks.specs.Facts.{facts_of}
use Rattle.explain_avoid.specs.AvoidedExplanations.{IsAvoidedExplanation}
use Rattle.explain_avoid.specs.AvoidedWords.{avoided_words}
use Rattle.explain_avoid.specs.calls.AvoidedRuns.{IsRunWithRefusals, IsExplainedRun}
use Rattle.explain_avoid.specs.declared.avoiding.AvoidedRun.{AvoidedRun}
use Rattle.explain_avoid.specs.declared.explaining.AvoidedExplanation.{AvoidedExplanation}

module _ (file : Option (List ℕ)) (text : List ℕ) (p : Program) (plan : Plan) (r : AvoidedRun) (run : IsRunWithRefusals file text p plan r) where
  -- the value of the end is that of the world
  pub avoided_end : r.end ≡ final_of r.world.plan (state_of r.world)
  avoided_end = run.end_is ∙ ap (λ (q : Plan). final_of q (state_of r.world)) (sym run.plan_is)

  -- it tells how each task has ended
  pub avoided_ends : r.end.ends ≡ list_below (end_of (state_of r.world)) (length r.world.plan.parents)
  avoided_ends = ap (λ (f : Final). f.ends) avoided_end

  -- the state of the world is that of the run
  there : IsCheckedPlan plan → state_of r.world ≡ state_after run.steps
  unfolding state_of
  there checked =
      ap (λ (q : Plan). state_at q (places_of r.world)) run.plan_is ∙ ap (state_at plan) run.there
      ∙ sym (places_fix_state plan run.steps checked (avoided_legal plan run.steps (serial_is_avoided plan run.steps checked run.ended.0)))

  pub avoided_explained :
      (account : Account) (x : AvoidedExplanation) → IsAccountOf text r.world.plan (state_of r.world) (done_by (places_of r.world)) account → IsExplainedRun file text account r x →
      IsAvoidedExplanation file text plan run.steps x.lines x.somebody_stays
  avoided_explained account x is_account is =
      let done = done_by (places_of r.world) in
      let by_plan : IsAccountOf text plan (state_of r.world) done account =
      subst (λ (q : Plan). IsAccountOf text q (state_of r.world) done account) run.plan_is is_account in
      let same = there (text_is_checked text by_plan.program plan by_plan.known.reads by_plan.unfolds) in
      let at_end : IsAccountOf text plan (state_after run.steps) done account = subst (λ (s : State). IsAccountOf text plan s done account) same by_plan in
      let by_state : AreStandings (IsDeadBy (final_of plan (state_of r.world)).blocked) (final_of plan (state_of r.world)).ends is.standings =
      subst (λ (q : Plan). AreStandings (IsDeadBy (final_of q (state_of r.world)).blocked) (final_of q (state_of r.world)).ends is.standings) run.plan_is is.stand in
      record {
        ended = run.ended;
        program = p;
        refusals = r.refusals;
        are_refusals = run.told;
        account = account;
        is_account = subst (λ (a : ℕ → Place). IsAccountOf text plan (state_after run.steps) (done_by a) account) run.there at_end;
        standings = is.standings;
        stand = subst (λ (s : State). AreStandings (IsDeadBy (final_of plan s).blocked) (final_of plan s).ends is.standings) same by_state;
        lines_are = is.lines_are ∙ ap (λ (s : State). avoided_words (facts_of text file account is.standings) s.phases r.refusals) same;
        tells = is.tells;
      }
