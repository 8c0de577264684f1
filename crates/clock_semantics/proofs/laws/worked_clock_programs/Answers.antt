use Rattle.clock_semantics.proofs.laws.worked_clock_programs.Goals as goal
use Rattle.clock_semantics.proofs.WorkedClocks.{faults_worked, limits_hold, moves_worked, plans_worked}

pub returns : goal.returns
returns c = record { plans = plans_worked; moves = moves_worked; faults = faults_worked; limits = limits_hold }
