use Rattle.armus_base.proofs.laws.runs.next_is_legal.Goals as goal
use Rattle.armus_base.proofs.NextIsLegal.{next_is_legal}

pub returns : goal.returns
returns c = next_is_legal
