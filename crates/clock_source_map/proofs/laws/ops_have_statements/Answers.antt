use Rattle.clock_source_map.proofs.AllOrigins.{moves_come_from_statements, ops_have_statements, tasks_and_phasers_have_statements}
use Rattle.clock_source_map.proofs.laws.ops_have_statements.Goals as goal
use Rattle.clock_source_map.proofs.AwaitOrigins.{awaits_come_from_waits}

pub returns : goal.returns
returns c = record { moves = moves_come_from_statements; ops = ops_have_statements; waits = awaits_come_from_waits; all = tasks_and_phasers_have_statements }
