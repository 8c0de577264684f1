use Rattle.std.proofs.Common.{◌∙◌, sym, ap}
use Rattle.std.specs.Prelude.{is_some}
use Rattle.schedule.specs.Replays.{load_without_pass}
use Rattle.schedule.proofs.LineByLine.{is_none}
use Rattle.schedule.proofs.replaying.Replaying.load.Goals as goal

pub returns-in-None : goal.returns-in-None
returns-in-None c =
    record { taken = λ a of. load_without_pass (is_none c.args.plan.now a.open_pass c.args.self.now.pass (ap is_some (sym c.take.ensures.value ∙ c.in-None.is)) of.open_pass) }
