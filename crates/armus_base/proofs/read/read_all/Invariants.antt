use Rattle.std.proofs.Common.{◌≡◌, ◌≤◌, ◌+◌, ◌-◌, vec_len}
use Rattle.std.specs.Io.KnownBytes.{Consumes}
use Rattle.armus_base.proofs.read.read_all.Given as goal

abbrev pub invariant-loop-piece : goal.invariant-loop-piece
invariant-loop-piece g l =
    (vec_len l.bytes ≤ l.limit + 1) × Consumes (g.S.Source.left l.initial.src) (g.S.Source.left l.src) l.bytes.items
    × (g.S.Source.faults l.initial.src ≡ g.S.Source.faults l.src)

abbrev pub decreases-loop-piece : goal.decreases-loop-piece
decreases-loop-piece g l = l.limit + 1 - vec_len l.bytes
