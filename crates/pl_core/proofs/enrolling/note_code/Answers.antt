use Rattle.std.proofs.Common.{suc, add-one, arith, subst, sym}
use Rattle.std.proofs.lemmas.Option.{slice_get-get_or}
use Rattle.pl_core.specs.inside.Enrolling.{IsEnrolledBy, Notes}
use Rattle.pl_core.proofs.Noted.{IsEnrolledBefore, before_all, notes_as, notes_then, one_more_piece}
use Rattle.pl_core.proofs.enrolling.note_code.Goals as goal

pub loop-k-preserved : goal.loop-k-preserved
loop-k-preserved c =
    let k = c.loop-k.k in
    let pieces = c.args.pieces.now in
    subst (λ n. Notes c.args.rows.now.items c.note_piece.new.rows.items (IsEnrolledBefore pieces c.args.t n)) (sym (add-one k))
    (notes_then c.args.rows.now.items c.loop-k.rows.items c.note_piece.new.rows.items (IsEnrolledBefore pieces c.args.t k) _
    (IsEnrolledBefore pieces c.args.t (suc k)) c.loop-k.invariant c.in_ok-note_piece.ensures
    (one_more_piece pieces c.args.t k _ (slice_get-get_or pieces k _ (omega arith))))

pub returns : goal.returns
returns c =
    notes_as c.args.rows.now.items c.loop-k.rows.items (IsEnrolledBefore c.args.pieces.now c.args.t c.loop-k.k) (IsEnrolledBy c.args.pieces.now c.args.t)
    c.loop-k.invariant (λ u p h. before_all c.args.pieces.now c.args.t c.loop-k.k u p (omega arith) h)
