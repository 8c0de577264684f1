use Rattle.pl_plan.proofs.laws.worked_programs.Goals as goal
use Rattle.pl_plan.proofs.WorkedPrograms.{faults_worked, limits_hold, plans_worked}

pub returns : goal.returns
returns c = record { plans = plans_worked; faults = faults_worked; limits = limits_hold }
