use Rattle.std.proofs.Common.{◌∙◌, sym}
use Rattle.schedule.specs.Replays.{second_pass}
use Rattle.schedule.proofs.LineByLine.{is_second}
use Rattle.schedule.proofs.replaying.Replaying.open.Goals as goal

pub returns-then-is_some : goal.returns-then-is_some
returns-then-is_some c = record {
  taken = λ a of. second_pass
      (is_second c.args.plan.now a.open_pass c.args.self.now.pass (sym c.is_some.ensures ∙ c.if-is_some.true) of.open_pass);
}
