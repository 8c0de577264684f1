use Rattle.armus_base.proofs.laws.places.lock_excludes.Goals as goal
use Rattle.armus_base.proofs.KeepsFar.{holder_is_task}
use Rattle.armus_base.proofs.LockExcludes.{takers_free}

pub returns : goal.returns
returns c = record { takings = takers_free; holder = holder_is_task }
