use Rattle.std.proofs.Common.{◌-◌, length}
use Rattle.armus_base.specs.inside.Positions.{IsInside, KeepsOps}
use Rattle.armus_base.proofs.cursor.position.Position.open.Given as goal

abbrev pub invariant-loop-k : goal.invariant-loop-k
invariant-loop-k l = record {
  same : KeepsOps l.pieces l.initial.self l.self;
  inside : IsInside l.self;
}

abbrev pub decreases-loop-k : goal.decreases-loop-k
decreases-loop-k l = length l.pieces - l.self.at
