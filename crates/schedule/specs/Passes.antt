-- Passes: a collect of loads, each made in a state of its own, and the statuses that they find.
use Rattle.std.specs.Prelude.{ℕ, ◌+◌, ◌*◌, Bool, List, Option, Some, None, length, slice_get, is_some, if◌then◌else◌}
use Rattle.std.proofs.Common.{zero, suc}
use Rattle.armus_base.specs.declared.event.Event.{Event}
use Rattle.armus_base.specs.declared.status.Status.{Status}
use Rattle.armus_base.specs.Plans.{Plan}
use Rattle.armus_base.specs.States.{State, Step, Phases, opening}
use Rattle.armus_base.specs.Places.{some_before}
use Rattle.armus_base.specs.Runs.{state_after}
use Rattle.armus_base.specs.Finals.{is_event_of, statuses_on}

-- a pass: for each of its loads, in order, the run that was made when it was loaded
abbrev pub PassLoads : Type 0
PassLoads = List (List Step)

-- the event that a load of the await cell of task t finds, after this run
abbrev pub event_after : ℕ → Option (List Step) → Option Event
event_after t None = None
event_after t (Some h) = (state_after h).published t

-- the phase that a load of the phase cell of task t on p finds, after this run
abbrev pub phase_after : ℕ → ℕ → Option (List Step) → Option ℕ
phase_after t p None = None
phase_after t p (Some h) = (state_after h).phases t p

-- first come the await cells of all tasks, in order: the event on which task t was found waiting
abbrev pub event_found : PassLoads → ℕ → Option Event
event_found loads t = event_after t (slice_get loads t)

-- some task was found waiting on an event of phaser p
abbrev pub is_found_awaited : Plan → PassLoads → ℕ → Bool
is_found_awaited plan loads p = some_before (λ t. is_event_of p (event_found loads t)) (length plan.parents)

-- how many numbers below n pass the test
abbrev pub count_below : (ℕ → Bool) → ℕ → ℕ
count_below test zero = 0
count_below test (suc n) = if test n then count_below test n + 1 else count_below test n

-- how many tasks below t were found waiting
abbrev pub waiting_below : PassLoads → ℕ → ℕ
waiting_below loads t = count_below (λ u. is_some (event_found loads u)) t

-- how many phasers below p were found awaited
abbrev pub awaited_below : Plan → PassLoads → ℕ → ℕ
awaited_below plan loads p = count_below (is_found_awaited plan loads) p

-- then come, for each task found waiting, in order, its phase cells on each phaser found awaited, in order: which load finds the phase of task t on p
abbrev pub phase_load : Plan → PassLoads → ℕ → ℕ → ℕ
phase_load plan loads t p = length plan.parents + (waiting_below loads t * awaited_below plan loads (length plan.makers) + awaited_below plan loads p)

-- the phases of task t that were found
abbrev pub phases_found : Plan → PassLoads → ℕ → Phases
phases_found plan loads t p = phase_after t p (slice_get loads (phase_load plan loads t p))

-- how many loads a pass has: one for each task, and one for each task found waiting and each phaser found awaited
abbrev pub loads_of : Plan → PassLoads → ℕ
loads_of plan loads =
    length plan.parents + waiting_below loads (length plan.parents) * awaited_below plan loads (length plan.makers)

-- what a pass has found of different moments, as if it were one state
abbrev pub state_found : Plan → PassLoads → State
state_found plan loads = record opening { published = event_found loads; phases = phases_found plan loads }

-- the statuses that a pass finds, in order of number: the event of each task found waiting, and its phases on the phasers found awaited
abbrev pub statuses_found : Plan → PassLoads → List Status
statuses_found plan loads = statuses_on plan (state_found plan loads) (is_found_awaited plan loads)
