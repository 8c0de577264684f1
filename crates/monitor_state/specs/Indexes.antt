-- Members of phasers that do not run, and tasks that wait, by phaser and phase.
use Rattle.std.specs.Prelude.{◌≡◌, ℕ, Bool, true, false, not, ◌&&◌, ◌==◌, Option, Some, None, List, bytes_eq, nat_lt}
use Rattle.std.specs.List.{list_any}
use Rattle.monitor_laws.specs.States.{Condition, Running, Waiting, Ended, AnyTask, OneOf, Participant}
use Rattle.monitor_laws.specs.Faults.{phase_on}
use Rattle.monitor_members.specs.Noted.{has_pair, is_noted}
use Rattle.monitor_state.specs.declared.member_index.MemberIndex.{MemberIndex}

-- a task runs in this condition
abbrev pub is_running : Condition → Bool
is_running Running = true
is_running (Waiting p n) = false
is_running Ended = false
is_running AnyTask = false
is_running (OneOf names tasks) = false

-- the phase is n
abbrev pub is_phase : Option ℕ → ℕ → Bool
is_phase None n = false
is_phase (Some m) n = m == n

-- a task waits for phase n of q in this condition
abbrev pub is_wait_for : List ℕ → ℕ → Condition → Bool
is_wait_for q n Running = false
is_wait_for q n (Waiting p m) = bytes_eq p q && m == n
is_wait_for q n Ended = false
is_wait_for q n AnyTask = false
is_wait_for q n (OneOf names tasks) = false

-- a member of q with phase n that does not run
abbrev pub rests_at : List ℕ → ℕ → Participant → Bool
rests_at q n u = not (is_running u.condition) && is_phase (phase_on u q) n

-- a task that waits for phase n of q
abbrev pub awaits_phase : List ℕ → ℕ → Participant → Bool
awaits_phase q n u = is_wait_for q n u.condition

-- a task waits for a phase of p above n in this condition
abbrev pub is_wait_above : List ℕ → ℕ → Condition → Bool
is_wait_above p n Running = false
is_wait_above p n (Waiting q m) = bytes_eq q p && nat_lt n m
is_wait_above p n Ended = false
is_wait_above p n AnyTask = false
is_wait_above p n (OneOf names tasks) = false

-- a task that waits for a phase of p above n, so for each member of p with phase n
abbrev pub waits_above : List ℕ → ℕ → Participant → Bool
waits_above p n u = is_wait_above p n u.condition

-- it has the numbers of those of the list that do not run by the phases that they have, and of those that wait by the phases for which they wait
pub record IsIndexOf (us : List Participant) (index : MemberIndex) : Type 0 where
  pub resting : (q : List ℕ) (n j : ℕ) → is_noted index.resting q n j ≡ list_any (λ u. u.number == j && rests_at q n u) us
  pub waiting : (q : List ℕ) (n j : ℕ) → is_noted index.waiting q n j ≡ list_any (λ u. u.number == j && awaits_phase q n u) us

-- these pairs are the phases on p of those who do not run, each with its number
abbrev pub AreResting : List Participant → List ℕ → List (ℕ × ℕ) → Type 0
AreResting us p pairs = (m k : ℕ) → has_pair pairs m k ≡ list_any (λ u. u.number == k && rests_at p m u) us
