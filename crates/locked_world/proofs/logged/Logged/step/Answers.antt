use Rattle.locked_world.proofs.Logging.{step_replayed}
use Rattle.locked_world.proofs.logged.Logged.step.Goals as goal

pub invariant_of-self-2 : goal.invariant_of-self-2
invariant_of-self-2 g c =
    step_replayed g.N.PlanName.plan (record { world = c.self.inside.world; journal = c.self.inside.journal })
    (record { world = c.step.new.self; journal = c.push.new.self }) c.args.t c.self.invariant (record { step = c.step.ensures; journal = c.in_ok-push.ensures.ok })
