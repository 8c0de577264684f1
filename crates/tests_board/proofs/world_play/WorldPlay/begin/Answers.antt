use Rattle.std.proofs.Common.{rules}
use Rattle.avoider.proofs.NobodyDies.{opening_alive}
use Rattle.tests_board.proofs.world_play.WorldPlay.begin.Goals as goal

pub invariant_of-result : goal.invariant_of-result
invariant_of-result c =
    record { nobody = opening_alive c.args.plan.now c.in_ok-world.world c.in_ok-world.ensures.opening; tasks = search rules }
