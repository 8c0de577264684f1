use Rattle.pl_core.proofs.GoingOn.{phaser_of_waiting}
use Rattle.run_queue.proofs.kinds.step_kind.Goals as goal

pub is_reached-requires : goal.is_reached-requires
is_reached-requires c =
    record { phaser = phaser_of_waiting c.args.world.now c.in-Waits.ensures.checked c.in-Waits.ensures.reachable c.args.t.0 c.in-Waits.event c.in-Waits.ensures.stand }
