use Rattle.pl_core.proofs.GoingOn.{goes_on}
use Rattle.pl_core.proofs.world.World.stand.Goals as goal

pub returns-clause-goes_on : goal.returns-clause-goes_on
returns-clause-goes_on c =
    goes_on c.args.self.now c.stand_kept.ensures.checked c.stand_kept.ensures.reachable c.args.t.0 c.stand_kept.result c.stand_kept.ensures.stand
