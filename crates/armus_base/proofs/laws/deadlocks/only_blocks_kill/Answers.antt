use Rattle.armus_base.proofs.laws.deadlocks.only_blocks_kill.Goals as goal
use Rattle.armus_base.proofs.OnlyBlocksKill.{only_blocks_kill}

pub returns : goal.returns
returns c = only_blocks_kill
