use Rattle.clock_syntax.proofs.ClockWorkedTexts.{reads_clock_texts}
use Rattle.clock_syntax.proofs.laws.clock_texts_are_read.Goals as goal

pub returns : goal.returns
returns c = reads_clock_texts
