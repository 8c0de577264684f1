use Rattle.std.proofs.Common.{◌≡◌, ℕ, ◌<◌, ◌++◌, get_or, length, take}
use Rattle.std.specs.Int.{w32, to_be_bytes}
use Rattle.std.specs.List.{flat_map}
use Rattle.armus_base.specs.declared.status.Status.{Status}
use Rattle.sites.specs.calls.Rows.{HasNumbers, status_bytes}
use Rattle.sites.proofs.encoding.encode.Given as goal

abbrev pub invariant-loop-status : goal.invariant-loop-status
invariant-loop-status l =
    record {
      bytes : l.row.items ≡ to_be_bytes w32 (length l.statuses) ++ flat_map status_bytes (take l.status-index l.statuses);
      numbers : (k : ℕ) (d : Status) → k < l.status-index → HasNumbers (get_or l.statuses k d);
    }
