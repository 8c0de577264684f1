use Rattle.pl_syntax.proofs.laws.texts_are_spaced.Goals as goal
use Rattle.pl_syntax.proofs.Spaced.{texts_are_spaced}
use Rattle.pl_syntax.proofs.WorkedTexts.{reads_texts}

pub returns : goal.returns
returns c = record { spaced = texts_are_spaced; worked = reads_texts }
