use Rattle.world_runs.proofs.RecordedEnds.{quiet_as, recorded_as}
use Rattle.world_runs.proofs.journal.finish.Goals as goal

pub finish-requires : goal.finish-requires
finish-requires g c =
    record {
      quiet = quiet_as g.N.PlanName.plan c.step_first_enabled.new.logged c.world.result.now c.world.ensures.world c.world.ensures.replayed
          (c.in_ok-step_first_enabled.ensures.quiet c.if-branch.false);
    }

pub returns : goal.returns
returns g c =
    record {
      recorded = recorded_as g.N.PlanName.plan c.step_first_enabled.new.logged c.world.result.now c.in_ok-end.end c.into_journal.result c.world.ensures.world
          c.world.ensures.replayed (c.in_ok-step_first_enabled.ensures.quiet c.if-branch.false) c.in_ok-end.ensures.end c.into_journal.ensures.journal;
    }
