use Rattle.std.proofs.Common.{ap, not, ◌∙◌}
use Rattle.clock_pl.proofs.Names.{any_spelled}
use Rattle.clock_pl.proofs.activities.list_once.Goals as goal

pub returns-clause-fresh : goal.returns-clause-fresh
returns-clause-fresh c = c.in_ok-fresh.ensures.added ∙ ap not (any_spelled c.args.x.now c.args.listed.now.keys)
