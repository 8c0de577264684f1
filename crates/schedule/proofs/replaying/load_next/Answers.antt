use Rattle.std.proofs.Common.{subst, arith}
use Rattle.schedule.specs.inside.OpenPasses.{IsMidPass}
use Rattle.schedule.proofs.LineByLine.{mid_pass}
use Rattle.schedule.proofs.replaying.load_next.Goals as goal

pub load_phase-requires : goal.load_phase-requires
load_phase-requires c =
    record {
      «open» = subst (λ q. IsMidPass q c.args.pass.now) c.requires.plan
          (mid_pass c.args.plan.now c.args.pass.now c.requires.«open» (let l = c.tasks.ensures.counted in omega arith));
    }
