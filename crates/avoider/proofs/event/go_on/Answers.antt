use Rattle.std.proofs.Common.{◌≢◌, inr}
use Rattle.armus_base.specs.Plans.{Aim, Blocks}
use Rattle.avoider.proofs.NobodyDies.{no_block_else, step_kills_nobody}
use Rattle.avoider.proofs.event.go_on.Goals as goal

pub returns-in_default : goal.returns-in_default
returns-in_default c =
    let step = c.step-in_default.ensures in
    let other : (aim : Aim) → step.action ≢ Blocks aim =
    no_block_else c.args.world.now c.args.t.0 c.stand.result c.stand.ensures.stand c.in_default.not-Await step.action step.next step.legal in
    record {
      goes_on = inr (record { step = step; other = other });
      nobody =
          step_kills_nobody c.args.world.now c.step-in_default.new.self c.stand.ensures.checked c.stand.ensures.reachable c.args.t.0 c.requires.nobody step other;
      same = tt;
    }
