use Rattle.std.proofs.Common.{◌≡◌, ℕ, List, Option, Some, None, refl, sym, ap}
use Rattle.std.specs.Prelude.{IsSomeAnd, Err}
use Rattle.sites.specs.calls.Checks.{IsBadAt}
use Rattle.sites.specs.calls.Keeping.{held}
use Rattle.sites.specs.calls.Rows.{IsBadRow}
use Rattle.sites.proofs.checking.take_site.Goals as goal

bad_at : (sites site : ℕ) (rows : List (Option (List ℕ))) (o : Option (List ℕ)) → o ≡ held rows site → IsSomeAnd o (IsBadRow sites site) → IsBadAt sites rows site
bad_at sites site rows None is bad = absurd bad
bad_at sites site rows (Some row) is bad = (row, sym is, bad)

pub returns-in-Err-Bad-clause-end : goal.returns-in-Err-Bad-clause-end
returns-in-Err-Bad-clause-end g c =
    (refl, bad_at c.args.sites c.args.site (g.K.KeepsRows.kept c.args.keeper.now) c.in-Ok.row c.in-Ok.ensures.found (c.in-Err-Bad.ensures.bad (ap Err c.in-Err-Bad.field-0-is)))
