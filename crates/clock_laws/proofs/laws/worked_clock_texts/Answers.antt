use Rattle.clock_laws.proofs.WorkedTexts.{texts_at_fault, texts_worked}
use Rattle.clock_laws.proofs.laws.worked_clock_texts.Goals as goal

pub returns : goal.returns
returns c = record { ends = texts_worked; faults = texts_at_fault }
