-- Who is stuck: closed sets of tasks and wildcards.
use Rattle.std.specs.Prelude.{◌≡◌, ℕ, Bool, true, false, Option, Some, None, Contains, nat_lt, List}
use Rattle.monitor_laws.specs.States.{Condition, Running, Waiting, Ended, AnyTask, OneOf, Participant, TraceState, is_live_task}
use Rattle.monitor_laws.specs.Faults.{phase_on}

-- a phase that is below n
abbrev pub is_phase_below : Option ℕ → ℕ → Bool
is_phase_below None n = false
is_phase_below (Some m) n = nat_lt m n

-- is a member of p with a phase below n
abbrev pub has_phase_below : Participant → List ℕ → ℕ → Bool
has_phase_below u p n = is_phase_below (phase_on u p) n

-- the set keeps whoever is in this condition: he has ended, or waits for p@n and some member of p in the set has a phase below n, or is a wildcard of which all
-- who may play it are in the set
abbrev pub IsKeptIn : TraceState → (ℕ → Bool) → Condition → Type 0
IsKeptIn s set Running = ⊥
IsKeptIn s set (Waiting p n) = (u : Participant) × Contains s.list u × (has_phase_below u p n ≡ true) × (set u.number ≡ true)
IsKeptIn s set Ended = Unit {0}
IsKeptIn s set AnyTask = (u : Participant) → Contains s.list u → is_live_task u.condition ≡ true → set u.number ≡ true
IsKeptIn s set (OneOf names tasks) =
    (u : Participant) → Contains s.list u → is_live_task u.condition ≡ true → Contains tasks u.number → set u.number ≡ true

-- a closed set, by numbers: it keeps each of its tasks and wildcards
abbrev pub IsClosedSet : TraceState → (ℕ → Bool) → Type 0
IsClosedSet s set = (t : Participant) → Contains s.list t → set t.number ≡ true → IsKeptIn s set t.condition

-- the task waits for p@n
abbrev pub WaitsForPhase : Participant → List ℕ → ℕ → Type 0
WaitsForPhase t p n = t.condition ≡ Waiting p n

-- a stuck task: it waits and stands in a closed set
pub record IsStuck (s : TraceState) (t : Participant) : Type 0 where
  pub listed : Contains s.list t
  pub waits : (p : List ℕ) × (n : ℕ) × WaitsForPhase t p n
  pub set : ℕ → Bool
  pub closed : IsClosedSet s set
  pub inside : set t.number ≡ true

-- task or wildcard u keeps t waiting: t waits for p@n, and u is a member of p with a phase below n
abbrev pub KeepsWaiting : Participant → Participant → Type 0
KeepsWaiting t u = (p : List ℕ) × (n : ℕ) × WaitsForPhase t p n × (has_phase_below u p n ≡ true)

-- somebody of the list keeps it waiting
abbrev pub IsKeptWaiting : TraceState → Participant → Type 0
IsKeptWaiting s t = (u : Participant) × Contains s.list u × KeepsWaiting t u

-- a task that is kept waiting and is not stuck
abbrev pub IsHeldNow : TraceState → Participant → Type 0
IsHeldNow s t = Contains s.list t × IsKeptWaiting s t × (IsStuck s t → ⊥)
