use Rattle.std.proofs.Common.{sym, ◌∙◌}
use Rattle.pl_syntax.proofs.Parts.{count_is}
use Rattle.pl_syntax.proofs.reader.program_at.Goals as goal

pub new-body-requires : goal.new-body-requires
new-body-requires c = c.in_ok-items.ensures.counted ∙ sym (count_is c.in_ok-items.items.items)
