use Rattle.std.proofs.Common.{arith, subst, sym}
use Rattle.std.proofs.lemmas.Result.{err_from_is_err_and}
use Rattle.sites.specs.calls.Rows.{IsRowOf}
use Rattle.sites.specs.inside.Reading.{MayBeStored}
use Rattle.sites.proofs.RowsRead.{fit_is_row, unfit_is_bad, unread_is_bad}
use Rattle.sites.proofs.decoding.decode.Goals as goal

pub returns-in_err-statuses-clause-bad : goal.returns-in_err-statuses-clause-bad
returns-in_err-statuses-clause-bad c =
    let p = err_from_is_err_and c.from_residual.result c.from_residual.ensures.1 in
    rw (p.1, p.2) (λ same. unread_is_bad c.args.sites c.args.site c.args.row.now c.in_err-statuses.field-0.0 c.in_err-statuses.ensures same)

pub returns-then-not-may_be_stored-clause-bad : goal.returns-then-not-may_be_stored-clause-bad
returns-then-not-may_be_stored-clause-bad c = λ same.
    unfit_is_bad c.args.sites c.args.site c.args.row.now c.in_ok-statuses.statuses.items c.in_ok-statuses.ensures
    (λ fit. c.if-not-may_be_stored.ensures (subst (MayBeStored c.args.sites c.args.site) (sym c.as_slice.ensures.value) fit))

pub returns-clause-stored : goal.returns-clause-stored
returns-clause-stored c =
    subst (λ ss. IsRowOf c.args.sites c.args.site ss c.args.row.now) (sym c.from_vec.ensures.items)
    (fit_is_row c.args.sites c.args.site c.args.row.now c.in_ok-statuses.statuses.items (λ i. omega (arith, c.type_inv.row i)) c.in_ok-statuses.ensures
    (subst (MayBeStored c.args.sites c.args.site) c.as_slice.ensures.value c.if-not-may_be_stored.ensures))
