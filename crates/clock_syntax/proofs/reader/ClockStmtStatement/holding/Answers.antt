use Rattle.std.proofs.Common.{sym, ◌∙◌}
use Rattle.clock_syntax.proofs.ClockParts.{clock_count_is}
use Rattle.clock_syntax.proofs.reader.ClockStmtStatement.holding.Goals as goal

pub new-body-requires : goal.new-body-requires
new-body-requires c = c.requires ∙ sym (clock_count_is c.args.items.items)
