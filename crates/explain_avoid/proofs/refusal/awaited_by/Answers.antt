use Rattle.std.proofs.Common.{sym}
use Rattle.avoider.proofs.WorldWaits.{not_published}
use Rattle.pl_core.proofs.GoingOn.{phaser_of_waiting}
use Rattle.explain_avoid.proofs.refusal.awaited_by.Goals as goal

pub returns-in-Waits-clause-phaser : goal.returns-in-Waits-clause-phaser
returns-in-Waits-clause-phaser c =
    phaser_of_waiting c.args.world.now c.stand.ensures.checked c.stand.ensures.reachable c.args.u.0 c.in-Waits.event (rw c.in-Waits.is at c.stand.ensures.stand)

pub returns-in_default : goal.returns-in_default
returns-in_default c =
    record {
      event = sym (not_published c.args.world.now c.stand.ensures.checked c.stand.ensures.reachable c.args.u.0 c.stand.result c.stand.ensures.stand
          c.in_default.not-Waits);
      phaser = tt;
    }
