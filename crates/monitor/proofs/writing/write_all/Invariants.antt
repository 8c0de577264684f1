use Rattle.std.proofs.Common.{◌≡◌, ◌≤◌, ◌-◌, List, length, take}
use Rattle.monitor.specs.Transfers.{AreWrites, PassesThrough, Transfer, bytes_written}
use Rattle.monitor.proofs.writing.write_all.Given as goal

abbrev pub invariant-loop-at : goal.invariant-loop-at
invariant-loop-at g l =
    (l.at ≤ length l.text)
    × ((log : List Transfer) × PassesThrough (g.P.Port.view l.initial.port) (g.P.Port.view l.port) log × AreWrites log × (bytes_written log ≡ take l.at l.text))
    × (g.P.Port.write_faults l.port ≡ g.P.Port.write_faults l.initial.port)
    × (g.P.Port.read_faults l.port ≡ g.P.Port.read_faults l.initial.port)

abbrev pub decreases-loop-at : goal.decreases-loop-at
decreases-loop-at g l = length l.text - l.at
