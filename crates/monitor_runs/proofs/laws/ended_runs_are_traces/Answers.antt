use Rattle.monitor_runs.proofs.laws.ended_runs_are_traces.Goals as goal
use Rattle.monitor_runs.proofs.DoneTasks.{has_all_done}
use Rattle.monitor_runs.proofs.EndedTraces.{ended_runs_are_traces}

pub returns : goal.returns
returns c = record { some = ended_runs_are_traces; all = has_all_done }
