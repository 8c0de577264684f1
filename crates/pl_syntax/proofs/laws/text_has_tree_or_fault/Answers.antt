use Rattle.pl_syntax.proofs.Unique.{text_or_fault}
use Rattle.pl_syntax.proofs.Whole.{one_of_both}
use Rattle.pl_syntax.proofs.laws.text_has_tree_or_fault.Goals as goal

pub returns-clause-not_both : goal.returns-clause-not_both
returns-clause-not_both c = text_or_fault

pub returns-clause-one_of_both : goal.returns-clause-one_of_both
returns-clause-one_of_both c = one_of_both
