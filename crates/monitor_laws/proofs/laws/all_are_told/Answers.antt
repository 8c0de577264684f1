use Rattle.monitor_laws.proofs.laws.all_are_told.Goals as goal
use Rattle.monitor_laws.proofs.Told.{all_are_told, nothing_is_taken_back}

pub returns : goal.returns
returns c = record { all = all_are_told; back = nothing_is_taken_back }
