use Rattle.schedule.proofs.Following.{unpublished}
use Rattle.schedule.proofs.pass.published.Goals as goal

pub returns-in_default : goal.returns-in_default
returns-in_default c = unpublished c.args.world.now c.args.t.0 c.stand.result c.stand.ensures.checked c.stand.ensures.reachable c.stand.ensures.stand c.in_default.not-Waits
