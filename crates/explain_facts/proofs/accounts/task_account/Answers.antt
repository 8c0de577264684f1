use Rattle.std.proofs.Common.{◌∙◌, ap, subst, sym}
use Rattle.armus_base.specs.Places.{done_by}
use Rattle.pl_core.specs.calls.Worlds.{places_of, state_of}
use Rattle.explain_facts.specs.Accounts.{HasWait, forked_of}
use Rattle.explain_facts.specs.calls.Known.{kept_layout}
use Rattle.explain_facts.proofs.accounts.task_account.Goals as goal

pub returns : goal.returns
unfolding state_of
returns c = record {
  drawn = c.in_ok-drawn.ensures;
  fork = c.forked.ensures ∙ ap (λ plan. forked_of (kept_layout c.args.facts.now) c.args.facts.now.program.now plan c.args.t.0) c.plan.ensures.plan;
  ended = c.ended.ensures;
  wait = subst
      (λ end. HasWait (kept_layout c.args.facts.now) c.args.facts.now.program.now c.args.world.now.plan (state_of c.args.world.now) (done_by (places_of c.args.world.now)) c.args.t.0 end c.in_ok-wait.wait)
      (sym c.requires.end) c.in_ok-wait.ensures;
  nexts = c.in_ok-nexts.ensures;
}
