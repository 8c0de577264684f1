use Rattle.command_line.proofs.EachMeaning.{each_meaning}
use Rattle.command_line.proofs.laws.words_have_a_meaning.Goals as goal

pub returns : goal.returns
returns c = each_meaning
