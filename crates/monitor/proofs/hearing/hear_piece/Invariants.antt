use Rattle.std.proofs.Common.{◌≡◌, ◌≤◌, ◌-◌, [], List, length, take}
use Rattle.monitor.specs.Transfers.{AreWrites, PassesThrough, Transfer, bytes_written}
use Rattle.monitor.specs.inside.Listening.{HearsBytes}
use Rattle.monitor.proofs.hearing.hear_piece.Given as goal

abbrev pub invariant-loop-at : goal.invariant-loop-at
invariant-loop-at g l =
    (l.out.items ≡ [])
    × ((log : List Transfer) × PassesThrough (g.P.Port.view l.initial.port) (g.P.Port.view l.port) log × AreWrites log × HearsBytes l.initial.listener (take l.at l.piece) (bytes_written log) l.listener)
    × (g.P.Port.write_faults l.port ≡ g.P.Port.write_faults l.initial.port)
    × (g.P.Port.read_faults l.port ≡ g.P.Port.read_faults l.initial.port)
    × (l.at ≤ length l.piece)

abbrev pub decreases-loop-at : goal.decreases-loop-at
decreases-loop-at g l = length l.piece - l.at
