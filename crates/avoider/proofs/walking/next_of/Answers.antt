use Rattle.std.proofs.Common.{sym, ◌∙◌}
use Rattle.avoider.proofs.Walked.{lives_unpublished, next_told}
use Rattle.avoider.proofs.walking.next_of.Goals as goal

pub returns-in-Some : goal.returns-in-Some
returns-in-Some c =
    let at = c.plan-plan.ensures in
    next_told c.args.world.now at.checked at.reachable c.args.t.0 c.requires.task c.args.event c.args.alive.now c.requires.alive c.args.at c.in-Some.awaited
    (sym c.published.ensures.event ∙ c.in-Some.is) c.requires.at c.least_impeder.result c.least_impeder.ensures

pub returns-in-None : goal.returns-in-None
returns-in-None c =
    let at = c.plan-plan.ensures in
    lives_unpublished c.args.world.now at.checked at.reachable c.args.t.0 c.requires.task c.args.event c.args.at (sym c.published.ensures.event ∙ c.in-None.is)
