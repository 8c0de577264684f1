use Rattle.armus_base.proofs.laws.pieces.whole_append.Goals as goal
use Rattle.armus_base.proofs.WholeLoops.{whole-append, whole_deeper, whole_loop}

pub returns : goal.returns
returns c = record { append = whole-append; turns = whole_loop; deeper = whole_deeper }
