use Rattle.clock_laws.proofs.TextEnds.{no_run_fails, text_runs_are_direct}
use Rattle.clock_laws.proofs.TextRunsEnd.{text_runs_are_bounded, text_runs_end}
use Rattle.clock_laws.proofs.laws.clock_text_runs.Goals as goal

pub returns : goal.returns
returns c = record { direct = text_runs_are_direct; fails = no_run_fails; bounded = text_runs_are_bounded; end = text_runs_end }
