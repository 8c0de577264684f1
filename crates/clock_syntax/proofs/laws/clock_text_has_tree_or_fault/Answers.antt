use Rattle.clock_syntax.proofs.ClockUnique.{not_both_clocks}
use Rattle.clock_syntax.proofs.ClockTexts.{clock_tree_or_fault}
use Rattle.clock_syntax.proofs.laws.clock_text_has_tree_or_fault.Goals as goal

pub returns-clause-not_both : goal.returns-clause-not_both
returns-clause-not_both c = not_both_clocks

pub returns-clause-one_of_both : goal.returns-clause-one_of_both
returns-clause-one_of_both c = clock_tree_or_fault
