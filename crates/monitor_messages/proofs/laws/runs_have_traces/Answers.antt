use Rattle.monitor_messages.proofs.laws.runs_have_traces.Goals as goal
use Rattle.monitor_messages.proofs.RunsHaveTraces.{has_one_trace, runs_have_traces}

pub returns : goal.returns
returns c = record { some = runs_have_traces; one = has_one_trace }
