use Rattle.monitor_laws.proofs.laws.worked_lists.Goals as goal
use Rattle.monitor_laws.proofs.Worked.{worked_ends, worked_gone, worked_members, worked_wildcards}

pub returns : goal.returns
returns c = record { members = worked_members; ends = worked_ends; wildcards = worked_wildcards; gone = worked_gone }
