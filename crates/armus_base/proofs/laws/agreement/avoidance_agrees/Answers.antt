use Rattle.armus_base.proofs.laws.agreement.avoidance_agrees.Goals as goal
use Rattle.armus_base.proofs.AvoidanceAgrees.{avoided_ends_alike, final_is_avoided, refused_where_dead}
use Rattle.armus_base.proofs.RefusedEnds.{refused_ends}

pub returns : goal.returns
returns c = record { alike = avoided_ends_alike; refused = refused_where_dead; exists = final_is_avoided; ends = refused_ends }
