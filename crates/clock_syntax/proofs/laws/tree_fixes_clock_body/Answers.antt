use Rattle.clock_syntax.proofs.ClockInjective.{clock_tree_of-injective}
use Rattle.clock_syntax.proofs.laws.tree_fixes_clock_body.Goals as goal

pub returns : goal.returns
returns c = clock_tree_of-injective
