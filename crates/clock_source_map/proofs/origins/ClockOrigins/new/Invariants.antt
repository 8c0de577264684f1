use Rattle.std.proofs.Common.{◌≡◌, ◌-◌, [], Ok}
use Rattle.armus_base.specs.Limits.{max_tasks}
use Rattle.clock_semantics.specs.Unfolding.{ClockUnfolding, clock_unfolded}
use Rattle.clock_source_map.proofs.Walked.{Walked}
use Rattle.clock_source_map.proofs.origins.ClockOrigins.new.Given as goal

-- the activities before t are walked
abbrev pub invariant-loop-t : goal.invariant-loop-t
invariant-loop-t l =
    (u : ClockUnfolding) × (clock_unfolded l.program.body ≡ Ok u) × Walked u l.t l.notes.begun l.notes.things l.waits.items × (l.notes.waits ≡ [])

abbrev pub decreases-loop-t : goal.decreases-loop-t
decreases-loop-t l = max_tasks - l.t
