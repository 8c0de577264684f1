use Rattle.std.proofs.Common.{◌≡◌, List, ◌∙◌, ap, subst, sym}
use Rattle.std.specs.Prelude.{option_copied}
use Rattle.armus_base.specs.Places.{done_by}
use Rattle.explain_facts.proofs.AtPlaces.{reached_there}
use Rattle.pl_core.specs.calls.Worlds.{places_of, state_of}
use Rattle.report.specs.Counts.{counts_of}
use Rattle.report.specs.Lines.{counts_line}
use Rattle.report.specs.declared.standing.Standing.{Standing}
use Rattle.explain_tasks.specs.Facts.{FactsValue, facts_of}
use Rattle.explain_tasks.specs.calls.Fitting.{FactsFitPlan}
use Rattle.explain_deadlock.specs.RunEnds.{AreFactsAt}
use Rattle.explain_deadlock.proofs.FitsEnds.{fits_plan}
use Rattle.explain_deadlock.proofs.OutlineFits.{facts_at, few_standings, final_in_order}
use Rattle.explain_avoid.specs.AvoidedWords.{avoided_words}
use Rattle.explain_avoid.proofs.explaining.avoided_explanation_of.Goals as goal

pub outline_of-requires : goal.outline_of-requires
outline_of-requires c =
    final_in_order c.args.run.now.world.plan (state_of c.args.run.now.world) c.args.run.now.end c.plan-plan.ensures.checked c.requires.end

pub new-facts-requires : goal.new-facts-requires
unfolding state_of
new-facts-requires c =
    let plan = c.args.run.now.world.plan in
    let s = state_of c.args.run.now.world in
    let done = done_by (places_of c.args.run.now.world) in
    let there = reached_there plan (places_of c.args.run.now.world) c.plan-plan.ensures.checked c.plan-plan.ensures.reachable in
    let f = facts_of c.args.places.now (option_copied c.args.file) c.args.account.now c.as_slice-stand.result.now in
    record {
      few = few_standings plan s done f
          (facts_at plan s done f c.args.run.now.end c.in_ok-outline.outline.standings c.requires.account there c.requires.end c.as_slice-stand.ensures.items
          c.in_ok-outline.ensures.stand)
          c.plan-plan.ensures.checked;
    }

pub explain_standings-requires : goal.explain_standings-requires
unfolding state_of
explain_standings-requires c =
    let plan = c.args.run.now.world.plan in
    let s = state_of c.args.run.now.world in
    let done = done_by (places_of c.args.run.now.world) in
    let there = reached_there plan (places_of c.args.run.now.world) c.plan-plan.ensures.checked c.plan-plan.ensures.reachable in
    let f = facts_of c.args.places.now (option_copied c.args.file) c.args.account.now c.as_slice-stand.result.now in
    let at : AreFactsAt plan s done f =
    facts_at plan s done f c.args.run.now.end c.in_ok-outline.outline.standings c.requires.account there c.requires.end c.as_slice-stand.ensures.items
    c.in_ok-outline.ensures.stand in
    record {
      few = few_standings plan s done f at c.plan-plan.ensures.checked;
      stand = ap (λ (g : FactsValue). g.standings) c.new-facts.ensures;
      counts = c.in_ok-outline.ensures.counts ∙ ap (λ (ss : List Standing). counts_line (counts_of ss)) (sym c.as_slice-stand.ensures.items);
      fits = subst (λ (g : FactsValue). FactsFitPlan g plan) (sym c.new-facts.ensures) (fits_plan plan s done f at);
    }

pub returns : goal.returns
unfolding state_of
returns c =
    let plan = c.args.run.now.world.plan in
    let s = state_of c.args.run.now.world in
    let done = done_by (places_of c.args.run.now.world) in
    let there = reached_there plan (places_of c.args.run.now.world) c.plan-plan.ensures.checked c.plan-plan.ensures.reachable in
    let run = c.args.run.now in
    let f = facts_of c.args.places.now (option_copied c.args.file) c.args.account.now c.as_slice-stand.result.now in
    let at : AreFactsAt plan s done f =
    facts_at plan s done f c.args.run.now.end c.in_ok-outline.outline.standings c.requires.account there c.requires.end c.as_slice-stand.ensures.items
    c.in_ok-outline.ensures.stand in
    record {
      standings = c.as_slice-stand.result.now;
      stand = at.stand;
      lines_are =
          subst (λ (g : FactsValue). c.in_ok-explanation.explanation.lines ≡ avoided_words g (state_of run.world).phases run.refusals) c.new-facts.ensures
          c.in_ok-explanation.ensures.lines;
      tells = c.in_ok-explanation.ensures.tells;
    }
