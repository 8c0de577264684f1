use Rattle.clock_laws.proofs.ClockRuns.{runs_are_bounded, runs_end, runs_match}
use Rattle.clock_laws.proofs.laws.clock_runs.Goals as goal

pub returns : goal.returns
returns c = record { bounded = runs_are_bounded; end = runs_end; matched = runs_match }
