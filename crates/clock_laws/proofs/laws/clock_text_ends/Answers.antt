use Rattle.clock_laws.proofs.TextEnds.{text_ends_are_those_of_tasks}
use Rattle.clock_laws.proofs.TextEndsTold.{text_ends_are_told}
use Rattle.clock_laws.proofs.laws.clock_text_ends.Goals as goal

pub returns : goal.returns
returns c = record { of_tasks = text_ends_are_those_of_tasks; told = text_ends_are_told }
