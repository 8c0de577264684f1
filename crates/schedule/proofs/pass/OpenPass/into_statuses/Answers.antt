use Rattle.schedule.proofs.Passing.{statuses_are_found}
use Rattle.schedule.proofs.pass.OpenPass.into_statuses.Goals as goal

pub returns : goal.returns
returns c = record { found = λ plan loads of full. statuses_are_found plan loads c.args.self of full }
