use Rattle.clock_laws.proofs.WorkedRuns.{runs_stuck, runs_worked}
use Rattle.clock_laws.proofs.laws.worked_clock_runs.Goals as goal

pub returns : goal.returns
returns c = record { ends = runs_worked; stuck = runs_stuck }
