use Rattle.pl_syntax.proofs.Injective.{tree_of-injective}
use Rattle.pl_syntax.proofs.laws.tree_fixes_body.Goals as goal

pub returns : goal.returns
returns c = tree_of-injective
