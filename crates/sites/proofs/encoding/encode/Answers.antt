use Rattle.std.proofs.Common.{length}
use Rattle.std.specs.Int.{w32, to_be_bytes}
use Rattle.sites.specs.calls.Rows.{HasNumbers, status_bytes}
use Rattle.sites.proofs.Appending.{each_more, one_more}
use Rattle.sites.proofs.encoding.encode.Goals as goal

pub loop-status-preserved : goal.loop-status-preserved
loop-status-preserved c =
    let xs = c.as_slice-statuses.result.now in
    record {
      bytes = one_more status_bytes (to_be_bytes w32 (length xs)) c.loop-status.row.items c.put_status.new.out.items xs c.loop-status.status-index c.status-item.result
          c.loop-status-test.true c.status-item.is c.loop-status.invariant.bytes c.in_ok-put_status.ensures.bytes;
      numbers = each_more HasNumbers xs c.loop-status.status-index c.status-item.result c.loop-status-test.true c.status-item.is c.loop-status.invariant.numbers
          c.in_ok-put_status.ensures.numbers;
    }
