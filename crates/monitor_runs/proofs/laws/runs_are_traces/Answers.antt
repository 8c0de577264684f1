use Rattle.monitor_runs.proofs.laws.runs_are_traces.Goals as goal
use Rattle.monitor_runs.proofs.RunTraces.{runs_are_traces}

pub returns : goal.returns
returns c = runs_are_traces
