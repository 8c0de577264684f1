use Rattle.armus_base.proofs.laws.agreement.refused_was_stuck.Goals as goal
use Rattle.armus_base.proofs.RefusedWasStuck.{refused_was_dead, refused_was_not_done, refused_was_stuck}

pub returns : goal.returns
returns c = record { stuck = refused_was_stuck; not_done = refused_was_not_done; dead = refused_was_dead }
