-- The faults of a line, as a table: each row a test and the fault that it finds. A line is legal where no test holds.
use Rattle.std.specs.Prelude.{ℕ, ◌+◌, Bool, true, false, not, ◌&&◌, ◌||◌, if◌then◌else◌, Option, Some, None, is_some, unwrap_or, List, [], ◌∷◌, ◌++◌, length, map, filter, find, sum_by, bytes_eq, nat_le, nat_lt}
use Rattle.std.specs.List.{list_any, slice_get}
use Rattle.std.specs.Map.{lookup}
use Rattle.monitor_laws.specs.Lines.{Announcement, Joins, Arrives, Leaves, Waits, Goes, Ends, Stands, TraceLine, SaysNothing, AsksReport, AsksList, AreGone, Announces, PlaysAny, PlaysOneOf}
use Rattle.monitor_laws.specs.States.{Condition, Running, Waiting, Ended, AnyTask, OneOf, Participant, TraceState, after_line, is_live_task, is_live_wildcard, is_there_as, new_participant}

-- the greatest phase
abbrev pub last_phase : ℕ
last_phase = 4294967295

-- so many tasks and wildcards a list has at most
abbrev pub most_listed : ℕ
most_listed = 65536

-- so many memberships they have at most in all
abbrev pub most_memberships : ℕ
most_memberships = 1048576

-- the faults with the parts of their texts
pub data LineFault : Type 0 where
  Malformed : LineFault  -- malformed
  NamesTask : (w : List ℕ) → LineFault  -- W is a task
  NamesWildcard : (t : List ℕ) → LineFault  -- T is a wildcard
  StillWaits : (t : List ℕ) → LineFault  -- T waits
  DoesNotWait : (t : List ℕ) → LineFault  -- T does not wait
  IsMemberAlready : (t p : List ℕ) → LineFault  -- T is a member of P
  IsNoMember : (t p : List ℕ) → LineFault  -- T is no member of P
  IsAtLastPhase : (t p : List ℕ) → LineFault  -- T is at the last phase of P
  TooManyListed : LineFault  -- there are 65536 tasks
  TooManyMemberships : LineFault  -- there are 1048576 memberships

-- a row of the table
abbrev pub fault_where : Bool → LineFault → List LineFault
fault_where holds fault = if holds then fault ∷ [] else []

-- the phase of a task or wildcard on a phaser, if it is a member
abbrev pub phase_on : Participant → List ℕ → Option ℕ
phase_on u p = lookup (bytes_eq p) u.phases

-- a task waits in this condition
abbrev pub waits_now : Condition → Bool
waits_now Running = false
waits_now (Waiting p n) = true
waits_now Ended = false
waits_now AnyTask = false
waits_now (OneOf names tasks) = false

-- who is there with the name, or would come by a line of it
abbrev pub participant_in : TraceState → List ℕ → Participant
participant_in s t = unwrap_or (find (is_there_as t) s.list) (new_participant s.named t)

-- a task with the name is there
abbrev pub is_task_in : TraceState → List ℕ → Bool
is_task_in s t = list_any (λ u. is_live_task u.condition && bytes_eq t u.name) s.list

-- a wildcard with the name is there
abbrev pub is_wildcard_in : TraceState → List ℕ → Bool
is_wildcard_in s t = list_any (λ u. is_live_wildcard u.condition && bytes_eq t u.name) s.list

-- only a task says so
abbrev pub is_of_tasks : Announcement → Bool
is_of_tasks (Joins p n) = false
is_of_tasks (Arrives p) = false
is_of_tasks (Leaves p) = false
is_of_tasks (Waits p n) = true
is_of_tasks Goes = true
is_of_tasks Ends = false
is_of_tasks Stands = true

-- the tasks that a wildcard has
abbrev pub tasks_had : Condition → List ℕ
tasks_had Running = []
tasks_had (Waiting p n) = []
tasks_had Ended = []
tasks_had AnyTask = []
tasks_had (OneOf names tasks) = tasks

-- how many memberships those of the list have in all; each task that a wildcard has counts as one
abbrev pub memberships_in : TraceState → ℕ
memberships_in s = sum_by (λ u. length u.phases + length (tasks_had u.condition)) s.list

-- the rows on what is said of one of the list, or of one who comes
abbrev pub said_faults : List ℕ → Participant → Announcement → List LineFault
said_faults t u (Joins p n) = fault_where (is_some (phase_on u p)) (IsMemberAlready t p)
said_faults t u (Arrives p) =
    fault_where (not (is_some (phase_on u p))) (IsNoMember t p)
    ++ fault_where (nat_le last_phase (unwrap_or (phase_on u p) 0)) (IsAtLastPhase t p)
said_faults t u (Leaves p) = fault_where (not (is_some (phase_on u p))) (IsNoMember t p)
said_faults t u Goes = fault_where (not (waits_now u.condition)) (DoesNotWait t)
said_faults t u (Waits p n) = []
said_faults t u Ends = []
said_faults t u Stands = []

-- the task goes on
abbrev pub is_go : Announcement → Bool
is_go (Joins p n) = false
is_go (Arrives p) = false
is_go (Leaves p) = false
is_go (Waits p n) = false
is_go Goes = true
is_go Ends = false
is_go Stands = false

-- somebody becomes a member
abbrev pub is_join : Announcement → Bool
is_join (Joins p n) = true
is_join (Arrives p) = false
is_join (Leaves p) = false
is_join (Waits p n) = false
is_join Goes = false
is_join Ends = false
is_join Stands = false

-- nobody is there with the name, and the list has as many as it may
abbrev pub has_no_room : TraceState → List ℕ → Bool
has_no_room s t = not (list_any (is_there_as t) s.list) && nat_le most_listed (length s.list)

-- the table: all faults of a line in the state before it, in the order of the tests
abbrev pub faults_of : TraceState → TraceLine → List LineFault
faults_of s SaysNothing = []
faults_of s AsksReport = []
faults_of s AsksList = []
faults_of s (AreGone beginning) = []
faults_of s (Announces t what place) =
    fault_where (is_wildcard_in s t && (is_of_tasks what || is_some place)) (NamesWildcard t)
    ++ fault_where (waits_now (participant_in s t).condition && not (is_go what)) (StillWaits t)
    ++ said_faults t (participant_in s t) what
    ++ fault_where (has_no_room s t) TooManyListed
    ++ fault_where (is_join what && nat_le most_memberships (memberships_in s)) TooManyMemberships
faults_of s (PlaysAny w) =
    fault_where (is_task_in s w) (NamesTask w)
    ++ fault_where (has_no_room s w) TooManyListed
faults_of s (PlaysOneOf w names) =
    fault_where (is_task_in s w) (NamesTask w)
    ++ map NamesWildcard (filter (λ t. bytes_eq w t || is_wildcard_in s t) names)
    ++ fault_where (has_no_room s w) TooManyListed
    ++ fault_where (nat_lt most_memberships (memberships_in (after_line s (PlaysOneOf w names)))) TooManyMemberships

-- the first fault of a line, or none; what is no line has one
abbrev pub first_fault : TraceState → Option TraceLine → Option LineFault
first_fault s None = Some Malformed
first_fault s (Some l) = slice_get (faults_of s l) 0
