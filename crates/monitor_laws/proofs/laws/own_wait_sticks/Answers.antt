use Rattle.monitor_laws.proofs.laws.own_wait_sticks.Goals as goal
use Rattle.monitor_laws.proofs.WereTold.{own_wait_sticks}

pub returns : goal.returns
returns c = own_wait_sticks
