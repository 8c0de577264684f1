use Rattle.std.proofs.Common.{◌≤◌, List}
use Rattle.armus_base.specs.declared.piece.Piece.{Piece}
use Rattle.armus_base.specs.calls.Pieces.{max_open_repeats}
use Rattle.armus_base.specs.inside.Positions.{KeepsOps, StandsAt}
use Rattle.armus_base.proofs.cursor.position.Position.close.Given as goal

abbrev pub invariant-loop-self : goal.invariant-loop-self
invariant-loop-self l = record {
  deep : l.self.depth ≤ max_open_repeats;
  same : (ps : List Piece) → StandsAt ps l.initial.self → KeepsOps ps l.initial.self l.self;
}

abbrev pub decreases-loop-self : goal.decreases-loop-self
decreases-loop-self l = l.self.depth
