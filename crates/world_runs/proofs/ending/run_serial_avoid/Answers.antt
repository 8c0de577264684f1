use Rattle.avoider.proofs.NobodyDies.{opening_alive}
use Rattle.world_runs.proofs.SerialEnds.{serial_end, serial_is_avoided}
use Rattle.world_runs.proofs.ending.run_serial_avoid.Goals as goal

pub end_by-requires-clause-keeps : goal.end_by-requires-clause-keeps
end_by-requires-clause-keeps g c κs within = opening_alive c.args.plan.now c.in_ok-world.world c.in_ok-world.ensures.opening

pub returns : goal.returns
returns g c =
    let opening = c.in_ok-world.ensures.opening in
    let by = c.in_ok-ended.ensures.end in
    record {
      end = serial_is_avoided c.args.plan.now c.in_ok-world.world c.in_ok-ended.ended opening by;
      serial = serial_end c.args.plan.now c.in_ok-world.world c.in_ok-ended.ended opening by;
    }
