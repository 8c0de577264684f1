use Rattle.std.proofs.Common.{◌∙◌, ap, refl, subst, sym}
use Rattle.armus_base.specs.CheckedPlans.{IsCheckedPlan}
use Rattle.explain_facts.specs.Accounts.{immediate_awaits}
use Rattle.explain_facts.specs.calls.Known.{kept_layout}
use Rattle.explain_facts.proofs.accounts.account_of.Goals as goal

pub immediate_awaits-requires-clause-checked : goal.immediate_awaits-requires-clause-checked
immediate_awaits-requires-clause-checked c = subst IsCheckedPlan (sym c.plan.ensures.plan) c.plan.ensures.checked

pub returns : goal.returns
returns c = record {
  account = record {
    reads = c.requires.known.reads;
    layout = kept_layout c.args.facts;
    of_text = refl;
    is_layout = c.requires.known.layout;
    all_told = c.in_ok-tasks.ensures.all;
    each = c.in_ok-tasks.ensures.each;
    phasers = c.in_ok-phasers.ensures;
    names = c.requires.known.names;
    immediate = c.in_ok-immediate.ensures ∙ ap (immediate_awaits (kept_layout c.args.facts) c.args.facts.program.now) c.plan.ensures.plan;
  };
}
