-- Final states as data: how each task has ended, and the statuses of the blocked tasks.
use Rattle.std.specs.Prelude.{ℕ, Bool, true, false, List, [], ◌∷◌, ◌++◌, Option, Some, None, length, if◌then◌else◌, ◌==◌, option_map, option_to_list}
use Rattle.std.proofs.Common.{zero, suc}
use Rattle.armus_base.specs.declared.ending.Final.{Final}
use Rattle.armus_base.specs.declared.ending.TaskEnd.{TaskEnd}
use Rattle.armus_base.specs.declared.ending.TaskEnd.TheVariants.{Done, Blocked, Refused, Unforked}
use Rattle.armus_base.specs.declared.event.Event.{Event}
use Rattle.armus_base.specs.declared.status.Member.{Member}
use Rattle.armus_base.specs.declared.status.Status.{Status}
use Rattle.armus_base.specs.Places.{some_before}
use Rattle.armus_base.specs.Plans.{Plan}
use Rattle.armus_base.specs.States.{State, Phases}

-- what f gives for the numbers below n, in order
abbrev pub list_below : {A : Type 0} → (ℕ → A) → ℕ → List A
list_below f zero = []
list_below f (suc n) = list_below f n ++ f n ∷ []

-- what f gives for the numbers below n, in order, without those for which it gives nothing
abbrev pub given_below : {A : Type 0} → (ℕ → Option A) → ℕ → List A
given_below f zero = []
given_below f (suc n) = given_below f n ++ option_to_list (f n)

-- how a task has ended that is forked or not, by the events on which it is published and at which it is refused
abbrev pub end_by : Bool → Option Event → Option Event → TaskEnd
end_by forked (Some e) refused = Blocked e
end_by forked None (Some e) = Refused e
end_by true None None = Done
end_by false None None = Unforked

-- how task t has ended, in a state in which no task can go on
abbrev pub end_of : State → ℕ → TaskEnd
end_of s t = end_by (s.forked t) (s.published t) (s.refused t)

-- the phase on p of a task with these phases, if p is one of the asked phasers and the task is a member
abbrev pub listed_phase : (ℕ → Bool) → Phases → ℕ → Option Member
listed_phase asked m p = if asked p then option_map (λ n. record { p = record { 0 = p }; n = n }) (m p) else None

-- the status of task t, if it is published: its event, and its phases on the asked phasers, in order of number
abbrev pub status_of : Plan → State → (ℕ → Bool) → ℕ → Option Status
status_of plan s asked t =
    option_map
    (λ e. record { t = record { 0 = t }; event = e; phases = given_below (listed_phase asked (s.phases t)) (length plan.makers) })
    (s.published t)

-- the statuses of the published tasks, in order of number, each with its phases on the asked phasers
abbrev pub statuses_on : Plan → State → (ℕ → Bool) → List Status
statuses_on plan s asked = given_below (status_of plan s asked) (length plan.parents)

-- the event is one of phaser p
abbrev pub is_event_of : ℕ → Option Event → Bool
is_event_of p None = false
is_event_of p (Some e) = e.p.0 == p

-- some task is published on an event of phaser p
abbrev pub is_awaited : Plan → State → ℕ → Bool
is_awaited plan s p = some_before (λ t. is_event_of p (s.published t)) (length plan.parents)

-- how each task has ended, and the statuses of the blocked tasks with their phases on the phasers that some blocked task awaits
abbrev pub final_of : Plan → State → Final
final_of plan s = record { ends = list_below (end_of s) (length plan.parents); blocked = statuses_on plan s (is_awaited plan s) }
