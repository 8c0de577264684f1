use Rattle.std.proofs.Common.{ap, ◌∙◌}
use Rattle.clock_pl.specs.inside.ClockChecker.{spelled_names}
use Rattle.clock_pl.proofs.Names.{place_spelled, spelled_with}
use Rattle.clock_pl.proofs.checker.number.Goals as goal

pub returns-clause-index : goal.returns-clause-index
returns-clause-index c = c.in_ok-i.ensures.index ∙ place_spelled c.args.x.now c.args.names.now.keys

pub returns-clause-keys : goal.returns-clause-keys
returns-clause-keys c = ap spelled_names c.in_ok-i.ensures.keys ∙ spelled_with c.args.names.now.keys c.args.x
