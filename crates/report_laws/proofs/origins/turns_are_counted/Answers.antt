use Rattle.report_laws.proofs.CountedTurns.{turns_are_counted}
use Rattle.report_laws.proofs.origins.turns_are_counted.Goals as goal

pub returns : goal.returns
returns c = turns_are_counted
