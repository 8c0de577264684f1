use Rattle.std.proofs.Common.{◌≡◌, length}
use Rattle.clock_source_map.specs.inside.OpNotes.{all_noted}
use Rattle.clock_source_map.proofs.op_notes.OpNotes.stop.Given as goal

-- what is left is noted behind what is noted
abbrev pub invariant-loop : goal.invariant-loop
invariant-loop l = all_noted l.self ≡ all_noted l.initial.self

abbrev pub decreases-loop : goal.decreases-loop
decreases-loop l = length l.self.left
