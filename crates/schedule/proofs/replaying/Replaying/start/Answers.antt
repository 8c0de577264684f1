use Rattle.std.proofs.Common.{[], sym, subst, refl}
use Rattle.schedule.specs.Replaying.{AreVerdicts, no_pass}
use Rattle.schedule.proofs.LineByLine.{opening_is}
use Rattle.schedule.proofs.replaying.Replaying.start.Goals as goal

pub returns : goal.returns
returns c =
    record {
      start = record {
        plan_is = c.in_ok-start.ensures.opening.plan_is;
        at = opening_is c.args.plan.now c.in_ok-start.field-0 c.requires.checked c.in_ok-start.ensures.opening;
        open_pass = tt;
        verdicts = subst (AreVerdicts c.args.plan.now []) (sym c.new.ensures.empty) no_pass;
        steps = refl;
      };
    }
