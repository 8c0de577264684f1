use Rattle.std.proofs.Common.{◌∙◌}
use Rattle.clock_pl.proofs.Names.{position_spelled}
use Rattle.clock_pl.proofs.checker.number_of_name.Goals as goal

pub returns : goal.returns
returns c = c.get_index_of.ensures.index ∙ position_spelled c.args.x.now c.args.names.now.keys
