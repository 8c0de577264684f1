use Rattle.pl_syntax.proofs.Unique.{one_tree}
use Rattle.pl_syntax.proofs.laws.text_has_one_tree.Goals as goal

pub returns : goal.returns
returns c = one_tree
