use Rattle.armus_base.proofs.laws.plans.phases_fit.Goals as goal
use Rattle.armus_base.proofs.PhasesFit.{phases_fit, awaited_phases_fit}

pub returns : goal.returns
returns c = record { phases = phases_fit; awaited = awaited_phases_fit }
