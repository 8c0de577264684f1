-- The first fault of a line, test by test.
use Rattle.std.specs.Prelude.{ℕ, Bool, false, not, ◌&&◌, ◌||◌, if◌then◌else◌, Option, Some, None, is_some, List, nat_le}
use Rattle.monitor_laws.specs.Lines.{Announcement, Joins, Arrives, Leaves, Waits, Goes, Ends, Stands}
use Rattle.monitor_laws.specs.States.{Participant, is_live_task, is_live_wildcard}
use Rattle.monitor_laws.specs.Faults.{LineFault, NamesTask, NamesWildcard, StillWaits, DoesNotWait, IsMemberAlready, IsNoMember, IsAtLastPhase, TooManyListed, TooManyMemberships, is_go, is_join, is_of_tasks, last_phase, phase_on, waits_now}

-- the phase on p of who is there with a name, where somebody is and is a member of it
abbrev pub phase_there : Option Participant → List ℕ → Option ℕ
phase_there None p = None
phase_there (Some u) p = phase_on u p

-- who is there waits
abbrev pub is_waiting_there : Option Participant → Bool
is_waiting_there None = false
is_waiting_there (Some u) = waits_now u.condition

-- who is there is a wildcard
abbrev pub is_wildcard_there : Option Participant → Bool
is_wildcard_there None = false
is_wildcard_there (Some u) = is_live_wildcard u.condition

-- who is there is a task
abbrev pub is_task_there : Option Participant → Bool
is_task_there None = false
is_task_there (Some u) = is_live_task u.condition

-- the first of two faults
abbrev pub first_of_two : Option LineFault → Option LineFault → Option LineFault
first_of_two None later = later
first_of_two (Some fault) later = Some fault

-- the fault of a join, by the phase that t has on p before
abbrev pub join_fault : List ℕ → List ℕ → Option ℕ → Option LineFault
join_fault t p None = None
join_fault t p (Some m) = Some (IsMemberAlready t p)

-- the fault of an arrive, by the phase that t has on p before
abbrev pub arrive_fault : List ℕ → List ℕ → Option ℕ → Option LineFault
arrive_fault t p None = Some (IsNoMember t p)
arrive_fault t p (Some m) = if nat_le last_phase m then Some (IsAtLastPhase t p) else None

-- the fault of a leave, by the phase that t has on p before
abbrev pub leave_fault : List ℕ → List ℕ → Option ℕ → Option LineFault
leave_fault t p None = Some (IsNoMember t p)
leave_fault t p (Some m) = None

-- the fault of a go, by whether t waits
abbrev pub go_fault : List ℕ → Bool → Option LineFault
go_fault t waits = if waits then None else Some (DoesNotWait t)

-- the first fault of what is said, apart from who is there and from room
abbrev pub said_fault : List ℕ → Option Participant → Announcement → Option LineFault
said_fault t found (Joins p n) = join_fault t p (phase_there found p)
said_fault t found (Arrives p) = arrive_fault t p (phase_there found p)
said_fault t found (Leaves p) = leave_fault t p (phase_there found p)
said_fault t found (Waits p n) = None
said_fault t found Goes = go_fault t (is_waiting_there found)
said_fault t found Ends = None
said_fault t found Stands = None

-- there is no room: the list is full, or its memberships are too many
abbrev pub room_fault : Bool → Bool → Option LineFault
room_fault no_place too_many = if no_place then Some TooManyListed else if too_many then Some TooManyMemberships else None

-- the first fault of an announcement
abbrev pub announced_fault : List ℕ → Option Participant → Announcement → Bool → Bool → Bool → Option LineFault
announced_fault t found what placed full most =
    if is_wildcard_there found && (is_of_tasks what || placed) then Some (NamesWildcard t)
    else if is_waiting_there found && not (is_go what) then Some (StillWaits t)
    else first_of_two (said_fault t found what) (room_fault (not (is_some found) && full) (is_join what && most))

-- the first fault of a line by which any task may play a wildcard
abbrev pub any_fault : List ℕ → Option Participant → Bool → Option LineFault
any_fault w found full = if is_task_there found then Some (NamesTask w) else room_fault (not (is_some found) && full) false

-- the fault of a name, among those who may play a wildcard, that is one of a wildcard
abbrev pub misnamed_fault : Option (List ℕ) → Option LineFault
misnamed_fault None = None
misnamed_fault (Some t) = Some (NamesWildcard t)

-- the first fault of a line by which one of these tasks may play a wildcard, apart from its memberships
abbrev pub one_of_fault : List ℕ → Option Participant → Option (List ℕ) → Bool → Option LineFault
one_of_fault w found misnamed full =
    if is_task_there found then Some (NamesTask w) else first_of_two (misnamed_fault misnamed) (room_fault (not (is_some found) && full) false)

-- the fault of a line by which there would be too many memberships
abbrev pub many_fault : Bool → Option LineFault
many_fault too_many = if too_many then Some TooManyMemberships else None
