use Rattle.std.proofs.Common.{Some, ap, ◌∙◌}
use Rattle.sites.proofs.passing.snap_site.Goals as goal

pub returns-clause-ok : goal.returns-clause-ok
returns-clause-ok g c =
    let row_is = c.as_slice.ensures.items ∙ c.in_ok-row.ensures.row in
    record {
      row = c.as_slice.result.now;
      rows = c.in_ok-put_row.ensures.ok;
      snapped = record {
        list = c.in_ok-snapshot.snapshot.statuses;
        snapshot = c.in_ok-snapshot.ensures.snapshot;
        put = ap Some row_is;
      };
    }
