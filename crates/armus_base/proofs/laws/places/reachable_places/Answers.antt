use Rattle.armus_base.proofs.laws.places.reachable_places.Goals as goal
use Rattle.armus_base.proofs.RefusedHasDropped.{refused_has_dropped}
use Rattle.armus_base.proofs.Reachable.{reachable_is_fixed, reachable_steps, reached_stays_at_reachable}

pub returns : goal.returns
returns c = record { fixed = reachable_is_fixed; steps = reachable_steps; reached = reached_stays_at_reachable; dropped = refused_has_dropped }
