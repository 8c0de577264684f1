use Rattle.armus_base.proofs.laws.deadlocks.collected_is_dead.Goals as goal
use Rattle.armus_base.proofs.CollectedIsDead.{collected_is_dead}
use Rattle.armus_base.proofs.Reachable.{collected_is_dead_at_reachable}

pub returns : goal.returns
returns c = record { runs = collected_is_dead; places = collected_is_dead_at_reachable }
