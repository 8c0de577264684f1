use Rattle.armus_base.proofs.laws.deadlocks.nobody_is_dead.Goals as goal
use Rattle.armus_base.proofs.BoardRuns.{nobody_dead_at, nobody_is_known_dead}
use Rattle.armus_base.proofs.NobodyIsDead.{nobody_is_dead}

pub returns : goal.returns
returns c = record { runs = nobody_is_dead; lawful = nobody_dead_at; known = nobody_is_known_dead }
