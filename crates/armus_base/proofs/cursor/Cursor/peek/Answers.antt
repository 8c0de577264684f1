use Rattle.std.proofs.Common.{ap, ◌∙◌}
use Rattle.std.specs.Prelude.{slice_get}
use Rattle.armus_base.proofs.Positions.{settled_next}
use Rattle.armus_base.proofs.cursor.Cursor.peek.Goals as goal

pub returns : goal.returns
returns c = record {
  next = c.op_at.ensures ∙ settled_next c.self.inside.pieces.now c.self.inside.position c.self.invariant ∙ ap (λ os. slice_get os 0) c.self.view_is;
}
