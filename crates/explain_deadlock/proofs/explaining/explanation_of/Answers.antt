use Rattle.std.proofs.Common.{ℕ, List, ◌∙◌, ap, subst, sym}
use Rattle.std.specs.Prelude.{option_copied}
use Rattle.std.proofs.lemmas.Result.{IfOk-weaker}
use Rattle.armus_base.specs.Places.{done_by}
use Rattle.explain_facts.proofs.AtPlaces.{reached_there}
use Rattle.pl_core.specs.calls.Worlds.{places_of, state_of}
use Rattle.report.specs.Counts.{counts_of}
use Rattle.report.specs.Lines.{counts_line}
use Rattle.report.specs.declared.standing.Standing.{Standing}
use Rattle.explain_deadlock.specs.declared.explaining.Explanation.{Explanation}
use Rattle.explain_deadlock.specs.Explanations.{Explains, IsExplanationAt}
use Rattle.explain_tasks.specs.Facts.{FactsValue, facts_of}
use Rattle.explain_tasks.specs.calls.Fitting.{FactsFitPlan}
use Rattle.explain_deadlock.specs.RunEnds.{AreFactsAt}
use Rattle.explain_deadlock.specs.inside.Fitting.{WaitForSome}
use Rattle.explain_deadlock.proofs.FitsEnds.{fits_plan, waits_for_some}
use Rattle.explain_deadlock.proofs.OutlineFits.{facts_at, few_standings, final_in_order}
use Rattle.explain_deadlock.proofs.explaining.explanation_of.Goals as goal

pub outline_of-requires : goal.outline_of-requires
outline_of-requires c =
    final_in_order c.args.world.now.plan (state_of c.args.world.now) c.args.end.now c.plan-plan.ensures.checked c.requires.end

pub new-facts-requires : goal.new-facts-requires
unfolding state_of
new-facts-requires c =
    let plan = c.args.world.now.plan in
    let s = state_of c.args.world.now in
    let done = done_by (places_of c.args.world.now) in
    let there = reached_there plan (places_of c.args.world.now) c.plan-plan.ensures.checked c.plan-plan.ensures.reachable in
    let f = facts_of c.args.places.now (option_copied c.args.file) c.args.account.now c.as_slice.result.now in
    record {
      few = few_standings plan s done f
          (facts_at plan s done f c.args.end.now c.in_ok-outline.outline.standings c.requires.account there c.requires.end c.as_slice.ensures.items
          c.in_ok-outline.ensures.stand)
          c.plan-plan.ensures.checked;
    }

pub explain_facts-requires : goal.explain_facts-requires
unfolding state_of
explain_facts-requires c =
    let plan = c.args.world.now.plan in
    let s = state_of c.args.world.now in
    let done = done_by (places_of c.args.world.now) in
    let there = reached_there plan (places_of c.args.world.now) c.plan-plan.ensures.checked c.plan-plan.ensures.reachable in
    let f = facts_of c.args.places.now (option_copied c.args.file) c.args.account.now c.as_slice.result.now in
    let at : AreFactsAt plan s done f =
    facts_at plan s done f c.args.end.now c.in_ok-outline.outline.standings c.requires.account there c.requires.end c.as_slice.ensures.items
    c.in_ok-outline.ensures.stand in
    record {
      fits = subst (λ (g : FactsValue). FactsFitPlan g plan) (sym c.new-facts.ensures) (fits_plan plan s done f at);
      plan = c.plan-plan.ensures.plan;
      text = record {
        text = ap (λ (g : FactsValue). g.text) c.new-facts.ensures;
        file = ap (λ (g : FactsValue). g.file) c.new-facts.ensures;
        account = ap (λ (g : FactsValue). g.account) c.new-facts.ensures;
      };
      wait =
          subst (λ (g : FactsValue). WaitForSome g (state_of c.args.world.now).phases) (sym c.new-facts.ensures) (waits_for_some plan s done f at c.requires.rest);
    }

pub returns : goal.returns
unfolding state_of
returns c =
    let plan = c.args.world.now.plan in
    let s = state_of c.args.world.now in
    let done = done_by (places_of c.args.world.now) in
    let there = reached_there plan (places_of c.args.world.now) c.plan-plan.ensures.checked c.plan-plan.ensures.reachable in
    let file = option_copied c.args.file in
    let counts = c.in_ok-outline.outline.counts in
    let f = facts_of c.args.places.now file c.args.account.now c.as_slice.result.now in
    let at : AreFactsAt plan s done f =
    facts_at plan s done f c.args.end.now c.in_ok-outline.outline.standings c.requires.account there c.requires.end c.as_slice.ensures.items
    c.in_ok-outline.ensures.stand in
    IfOk-weaker c.explain_facts.result
    (λ (e : Explanation). Explains c.new-facts.result plan s.phases counts e.lines e.has_waiting)
    (λ (e : Explanation). IsExplanationAt file c.args.places.now plan s done e.lines e.has_waiting)
    (λ e is. record {
      account = c.args.account.now;
      is_account = c.requires.account;
      explains = record {
        standings = c.as_slice.result.now;
        stand = at.stand;
        explains =
            subst (λ (t : List ℕ). Explains f plan s.phases t e.lines e.has_waiting)
            (c.in_ok-outline.ensures.counts ∙ ap (λ (ss : List Standing). counts_line (counts_of ss)) (sym c.as_slice.ensures.items))
            (subst (λ (g : FactsValue). Explains g plan s.phases counts e.lines e.has_waiting) c.new-facts.ensures is);
      };
    })
    c.explain_facts.ensures
