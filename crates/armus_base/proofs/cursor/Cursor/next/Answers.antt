use Rattle.std.proofs.Common.{◌∷◌, arith, ap, sym, ◌∙◌}
use Rattle.armus_base.proofs.Positions.{settled_none, takes}
use Rattle.armus_base.proofs.cursor.Cursor.next.Goals as goal

pub returns-in_err-op-clause-none : goal.returns-in_err-op-clause-none
returns-in_err-op-clause-none c =
    let none = settled_none c.self.inside.pieces.now c.self.inside.position c.self.invariant (sym c.op_at.ensures ∙ c.in_err-op.was) in
    rw c.from_residual.ensures (sym c.self.view_is ∙ none, sym c.self.view_is ∙ none)

pub overflow_add-self : goal.overflow_add-self
overflow_add-self c =
    let taken = takes c.self.inside.pieces.now c.self.inside.position c.in_ok-op.op c.self.invariant (sym c.op_at.ensures ∙ c.in_ok-op.was) in
    omega (arith, taken.fits, c.self.invariant.short)

pub open-requires-clause-stands : goal.open-requires-clause-stands
open-requires-clause-stands c =
    let taken = takes c.self.inside.pieces.now c.self.inside.position c.in_ok-op.op c.self.invariant (sym c.op_at.ensures ∙ c.in_ok-op.was) in
    (c.close.ensures.closed c.self.inside.pieces.now taken.stands).0.stands

pub open-requires-clause-inside : goal.open-requires-clause-inside
open-requires-clause-inside c =
    let taken = takes c.self.inside.pieces.now c.self.inside.position c.in_ok-op.op c.self.invariant (sym c.op_at.ensures ∙ c.in_ok-op.was) in
    (c.close.ensures.closed c.self.inside.pieces.now taken.stands).1

pub returns-clause-some : goal.returns-clause-some
returns-clause-some c =
    let taken = takes c.self.inside.pieces.now c.self.inside.position c.in_ok-op.op c.self.invariant (sym c.op_at.ensures ∙ c.in_ok-op.was) in
    let closed = (c.close.ensures.closed c.self.inside.pieces.now taken.stands).0 in
    sym c.self.view_is ∙ taken.left ∙ ap (λ os. c.in_ok-op.op ∷ os) (sym (c.open.ensures.same.same ∙ closed.same))
