use Rattle.std.proofs.Common.{[], ◌∷◌, subst, sym}
use Rattle.armus_base.specs.declared.piece.Piece.TheVariants.{Op as Single, Repeat}
use Rattle.pl_core.specs.inside.Enrolling.{Enrols, IsEnrolledBy, Notes}
use Rattle.pl_core.proofs.Noted.{by_op, by_repeat, notes_as, notes_none}
use Rattle.pl_core.proofs.enrolling.note_piece.Goals as goal

pub returns-in_ok-note_op-in-Op : goal.returns-in_ok-note_op-in-Op
returns-in_ok-note_op-in-Op c =
    subst (λ v. Notes c.args.rows.now.items c.note_op.new.rows.items (IsEnrolledBy (v ∷ []) c.args.t)) (sym c.in-Op.is)
    (notes_as c.args.rows.now.items c.note_op.new.rows.items (Enrols c.args.t c.in-Op.op) (IsEnrolledBy (Single c.in-Op.op ∷ []) c.args.t) c.in_ok-note_op-in-Op.ensures
    (λ u p h. by_op c.in-Op.op c.args.t u p h))

pub returns-in-Repeat : goal.returns-in-Repeat
returns-in-Repeat c =
    subst (λ v. Notes c.args.rows.now.items c.args.rows.now.items (IsEnrolledBy (v ∷ []) c.args.t)) (sym c.in-Repeat.is)
    (notes_none c.args.rows.now.items (IsEnrolledBy (Repeat c.in-Repeat.k c.in-Repeat.len ∷ []) c.args.t)
    (λ u p h. by_repeat c.in-Repeat.k c.in-Repeat.len c.args.t u p h))
