use Rattle.std.proofs.Common.{length}
use Rattle.std.specs.Int.{w32, to_be_bytes}
use Rattle.sites.specs.calls.Checks.{part_of}
use Rattle.sites.proofs.PuttingParts.{IsPartWritten}
use Rattle.sites.proofs.parts.part_row.Given as goal

abbrev pub invariant-loop-status : goal.invariant-loop-status
invariant-loop-status l =
    IsPartWritten l.sites l.site (to_be_bytes w32 (length (part_of l.sites l.site l.list))) l.list l.status-index l.row.items
