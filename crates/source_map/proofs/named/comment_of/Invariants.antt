use Rattle.std.proofs.Common.{◌≡◌, ◌≤◌, length}
use Rattle.source_map.specs.NamedPlaces.{comment_of}
use Rattle.source_map.proofs.named.comment_of.Given as goal

abbrev pub invariant-loop-rest : goal.invariant-loop-rest
invariant-loop-rest l = (comment_of l.rest ≡ comment_of l.line) × (length l.rest ≤ length l.line)

abbrev pub decreases-loop-rest : goal.decreases-loop-rest
decreases-loop-rest l = length l.rest
