use Rattle.std.proofs.Common.{sym, ◌∙◌}
use Rattle.pl_syntax.proofs.Parts.{count_is}
use Rattle.pl_syntax.proofs.reader.StmtStatement.holding.Goals as goal

pub new-body-requires : goal.new-body-requires
new-body-requires c = c.requires ∙ sym (count_is c.args.items.items)
