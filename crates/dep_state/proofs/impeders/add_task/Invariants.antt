use Rattle.std.proofs.Common.{take}
use Rattle.std.specs.Prelude.{Any}
use Rattle.dep_state.specs.calls.Deps.{rows_of}
use Rattle.dep_state.specs.inside.Made.{IsPhaseBelow, IsAdded, nth_event}
use Rattle.dep_state.proofs.impeders.add_task.Given as goal

abbrev pub invariant-loop-member : goal.invariant-loop-member
invariant-loop-member l = IsAdded (λ i. Any (λ c. IsPhaseBelow c (nth_event l.events i)) (take l.member-index l.status.phases)) l.k
    (rows_of l.initial.rows.items) (rows_of l.rows.items)
