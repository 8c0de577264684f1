use Rattle.pl_core.proofs.GoingOn.{phaser_of_waiting}
use Rattle.pl_core.proofs.world.World.enabled.Goals as goal

pub is_reached-requires : goal.is_reached-requires
is_reached-requires c =
    record { phaser = phaser_of_waiting c.args.self.now c.stand.ensures.checked c.stand.ensures.reachable c.args.t.0 c.in-Waits.event c.in-Waits.ensures.stand }
