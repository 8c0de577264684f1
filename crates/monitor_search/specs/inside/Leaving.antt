-- Lines by which nobody becomes stuck and nobody is stuck no longer.
use Rattle.std.specs.Prelude.{◌≡◌, ℕ, Bool, true, false, not, ◌&&◌, ◌||◌, ◌==◌, List, [], ◌∷◌, Contains, bytes_eq, length, nat_lt}
use Rattle.std.specs.List.{list_any}
use Rattle.monitor_laws.specs.States.{Condition, Running, Waiting, Ended, AnyTask, OneOf, Participant, is_live_task, is_live_wildcard, is_there_as}
use Rattle.monitor_laws.specs.Stuck.{has_phase_below}
use Rattle.monitor_words.specs.Reasons.{has_ended}

-- a task runs in this condition
abbrev pub runs_now : Condition → Bool
runs_now Running = true
runs_now (Waiting p n) = false
runs_now Ended = false
runs_now AnyTask = false
runs_now (OneOf names tasks) = false

-- any task may play a wildcard in this condition
abbrev pub is_for_any : Condition → Bool
is_for_any Running = false
is_for_any (Waiting p n) = false
is_for_any Ended = false
is_for_any AnyTask = true
is_for_any (OneOf names tasks) = false

-- a task that runs and has one of these numbers
abbrev pub runs_as_one_of : List ℕ → Participant → Bool
runs_as_one_of tasks u = runs_now u.condition && list_any (λ k. k == u.number) tasks

-- who is in this condition runs, or is a wildcard that somebody who runs may play
abbrev pub is_freed : List Participant → Condition → Bool
is_freed list Running = true
is_freed list (Waiting p n) = false
is_freed list Ended = false
is_freed list AnyTask = list_any (λ u. runs_now u.condition) list
is_freed list (OneOf names tasks) = list_any (runs_as_one_of tasks) list

-- one that is not freed
abbrev pub is_unfreed : List Participant → Participant → Bool
is_unfreed list u = not (is_freed list u.condition)

-- a member of p with a phase below n that is not freed
abbrev pub is_unfreed_below : List Participant → List ℕ → ℕ → Participant → Bool
is_unfreed_below list p n u = has_phase_below u p n && is_unfreed list u

-- one of the list that passes has this number
abbrev pub passes_numbered : (Participant → Bool) → List Participant → ℕ → Bool
passes_numbered test list k = list_any (λ u. test u && u.number == k) list

-- of these pairs of a phase and a number, one has a phase below n and a number that passes
abbrev pub passes_below : (ℕ → Bool) → ℕ → List (ℕ × ℕ) → Bool
passes_below test n pairs = list_any (λ e. nat_lt e.0 n && test e.1) pairs

-- who is in this condition is freed, or waits and all who keep it waiting are freed
abbrev pub is_surely_out : List Participant → Condition → Bool
is_surely_out list Running = true
is_surely_out list (Waiting p n) = not (list_any (is_unfreed_below list p n) list)
is_surely_out list Ended = false
is_surely_out list AnyTask = list_any (λ u. runs_now u.condition) list
is_surely_out list (OneOf names tasks) = list_any (runs_as_one_of tasks) list

-- nobody is known
abbrev pub is_nobody : List (ℕ × List ℕ) → Bool
is_nobody [] = true
is_nobody (t ∷ known) = false

-- somebody else runs
abbrev pub runs_beside : ℕ → Participant → Bool
runs_beside number u = runs_now u.condition && not (u.number == number)

-- u frees nobody: it is no new task among stuck tasks and wildcards that nobody else who runs may play
abbrev pub frees_nobody : List Participant → List (ℕ × List ℕ) → Participant → Bool
frees_nobody list known u =
    ((is_live_wildcard u.condition || is_nobody known) || not (list_any (λ v. is_for_any v.condition) list)) || list_any (runs_beside u.number) list

-- the task with this number is in the list and has not ended
abbrev pub lives_with_number : List Participant → ℕ → Bool
lives_with_number list k = list_any (λ u. is_live_task u.condition && u.number == k) list

-- one of these tasks may play a wildcard in this condition, and not all of them live
abbrev pub asks_for_ended : List Participant → Condition → Bool
asks_for_ended list Running = false
asks_for_ended list (Waiting p n) = false
asks_for_ended list Ended = false
asks_for_ended list AnyTask = false
asks_for_ended list (OneOf names tasks) = list_any (λ k. not (lives_with_number list k)) tasks

-- has ended with the name t
abbrev pub has_ended_as : List ℕ → Participant → Bool
has_ended_as t u = has_ended u.condition && bytes_eq t u.name

-- nobody is known; nobody is there with the name t or has ended with it; each wildcard of some tasks asks for such as live; and somebody runs, or none is for any task
abbrev pub ends_quietly : List Participant → List (ℕ × List ℕ) → List ℕ → Bool
ends_quietly list known t =
    ((is_nobody known && not (list_any (has_ended_as t) list)) && not (list_any (λ v. asks_for_ended list v.condition) list))
    && (list_any (λ u. runs_now u.condition) list || not (list_any (λ v. is_for_any v.condition) list))

-- who is there with the name w is a member of nothing
abbrev pub HasNoPhase : List Participant → List ℕ → Type 0
HasNoPhase list w = (u : Participant) × Contains list u × (is_there_as w u ≡ true) × (length u.phases ≡ 0)
