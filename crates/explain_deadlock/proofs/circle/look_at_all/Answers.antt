use Rattle.std.proofs.Common.{◌∙◌, List, subst}
use Rattle.std.proofs.lemmas.List.{take_all}
use Rattle.armus_base.specs.declared.ids.TaskId.{TaskId}
use Rattle.explain_deadlock.specs.inside.Searches.{IsLooking}
use Rattle.explain_deadlock.proofs.Searches.{one_more}
use Rattle.explain_deadlock.proofs.circle.look_at_all.Goals as goal

pub loop-u-preserved : goal.loop-u-preserved
loop-u-preserved c = record {
  sized = c.in_ok-look_at.ensures.sized ∙ c.loop-u.invariant.sized;
  looked = λ next t first.
      one_more next t c.args.at c.args.followers.now c.requires.ascend c.loop-u.u-index _ c.loop-u-test.true c.loop-u.search c.look_at.new.search
      (c.loop-u.invariant.looked next t first) (λ looked l f. c.in_ok-look_at.ensures.looked next t c.args.followers.now looked l f);
}

pub returns-clause-looked : goal.returns-clause-looked
returns-clause-looked c next t first =
    subst (λ (xs : List TaskId). IsLooking next t c.args.at c.args.followers.now xs c.loop-u.search)
    (take_all c.loop-u.u-index c.args.followers.now c.loop-u-test.false) (c.loop-u.invariant.looked next t first)
