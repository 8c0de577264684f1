use Rattle.std.proofs.Common.{◌≡◌, length}
use Rattle.clock_source_map.specs.inside.OpNotes.{start_noted}
use Rattle.clock_source_map.proofs.op_notes.OpNotes.start.Given as goal

-- the start goes on behind what is noted
abbrev pub invariant-loop-op : goal.invariant-loop-op
invariant-loop-op l = start_noted l.n l.self.left l.self.origins ≡ start_noted l.n l.initial.self.left l.initial.self.origins

abbrev pub decreases-loop-op : goal.decreases-loop-op
decreases-loop-op l = length l.self.left
