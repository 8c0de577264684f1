use Rattle.std.proofs.Common.{sym, ◌∙◌}
use Rattle.avoider.proofs.Walked.{lives_unpublished, none_of}
use Rattle.avoider.proofs.walking.may_be_dead.Goals as goal

pub returns : goal.returns
returns c off =
    let at = c.plan-plan.ensures in
    lives_unpublished c.args.world.now at.checked at.reachable c.args.t.0 c.requires.task c.args.event c.args.u
    (sym c.published.ensures.event ∙ none_of c.published.result (sym c.is_some.ensures ∙ off))
