-- A wait by which its task does not come into a closed set, or comes into one alone.
use Rattle.std.specs.Prelude.{◌≡◌, ℕ, Bool, true, false, not, ◌&&◌, ◌||◌, ◌==◌, List, Contains}
use Rattle.std.specs.List.{list_any}
use Rattle.monitor_laws.specs.States.{Condition, Running, Waiting, Ended, AnyTask, OneOf, Participant, is_live_task}
use Rattle.monitor_laws.specs.Stuck.{has_phase_below}
use Rattle.monitor_state.specs.Indexes.{waits_above}
use Rattle.monitor_search.specs.Known.{has_stuck_number}
use Rattle.monitor_search.specs.inside.Leaving.{runs_as_one_of, runs_now}

-- a task that has not ended and was not stuck
abbrev pub is_unstuck : List (ℕ × List ℕ) → Participant → Bool
is_unstuck known u = is_live_task u.condition && not (has_stuck_number known u.number)

-- such a task with one of these numbers
abbrev pub is_unstuck_of : List (ℕ × List ℕ) → List ℕ → Participant → Bool
is_unstuck_of known tasks u = is_unstuck known u && list_any (λ k. k == u.number) tasks

-- who has this number and is in this condition stood in no closed set, and is not the task with number k
abbrev pub was_outside : List Participant → List (ℕ × List ℕ) → ℕ → ℕ → Condition → Bool
was_outside list known k number Running = true
was_outside list known k number (Waiting p n) = not (has_stuck_number known number || number == k)
was_outside list known k number Ended = false
was_outside list known k number AnyTask = list_any (λ u. runs_now u.condition) list
was_outside list known k number (OneOf names tasks) = list_any (is_unstuck_of known tasks) list

-- one that may have stood in a closed set, or is the task with number k
abbrev pub may_stand_inside : List Participant → List (ℕ × List ℕ) → ℕ → Participant → Bool
may_stand_inside list known k v = not (was_outside list known k v.number v.condition)

-- such a one that is a member of p with a phase below n
abbrev pub is_inside_below : List Participant → List (ℕ × List ℕ) → ℕ → List ℕ → ℕ → Participant → Bool
is_inside_below list known k p n v = has_phase_below v p n && may_stand_inside list known k v

-- who has this number and is in this condition was not stuck, and may come into a closed set because u does
abbrev pub needs_in : List Participant → List (ℕ × List ℕ) → Participant → ℕ → Condition → Bool
needs_in list known u number Running = false
needs_in list known u number (Waiting q m) = has_phase_below u q m && not (has_stuck_number known number)
needs_in list known u number Ended = false
needs_in list known u number AnyTask = not (list_any (λ v. runs_now v.condition) list)
needs_in list known u number (OneOf names tasks) = list_any (λ k. k == u.number) tasks && not (list_any (runs_as_one_of tasks) list)

-- somebody else who needs u
abbrev pub needs_other : List Participant → List (ℕ × List ℕ) → Participant → Participant → Bool
needs_other list known u v = not (v.number == u.number) && needs_in list known u v.number v.condition

-- nobody waits for who has these phases
abbrev pub NobodyAwaits : List Participant → List (List ℕ × ℕ) → Type 0
NobodyAwaits list phases = (m : List ℕ × ℕ) → Contains phases m → list_any (waits_above m.0 m.1) list ≡ false

-- u, in this condition, waits for nobody who may have stood in a closed set, and nobody else needs it
abbrev pub waits_unneeded : List Participant → List (ℕ × List ℕ) → Participant → Condition → Bool
waits_unneeded list known u Running = false
waits_unneeded list known u (Waiting p n) = not (list_any (is_inside_below list known u.number p n) list) && not (list_any (needs_other list known u) list)
waits_unneeded list known u Ended = false
waits_unneeded list known u AnyTask = false
waits_unneeded list known u (OneOf names tasks) = false

-- u, in this condition, waits for somebody who may have stood in a closed set, or for itself, and nobody else needs it
abbrev pub waits_inside : List Participant → List (ℕ × List ℕ) → Participant → Condition → Bool
waits_inside list known u Running = false
waits_inside list known u (Waiting p n) = list_any (is_inside_below list known u.number p n) list && not (list_any (needs_other list known u) list)
waits_inside list known u Ended = false
waits_inside list known u AnyTask = false
waits_inside list known u (OneOf names tasks) = false
