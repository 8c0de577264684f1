use Rattle.pl_syntax.proofs.OneListOfEnds.{one_list_of_ends}
use Rattle.pl_syntax.proofs.OneListOfOffsets.{one_list_of_offsets}
use Rattle.pl_syntax.proofs.laws.text_has_one_list_of_offsets.Goals as goal

pub returns-clause-offsets : goal.returns-clause-offsets
returns-clause-offsets c = one_list_of_offsets

pub returns-clause-ends : goal.returns-clause-ends
returns-clause-ends c = one_list_of_ends
