-- What a line makes of one of the list.
use Rattle.std.specs.Prelude.{◌≡◌, ℕ, ◌<◌, ◌+◌, true, None, IfSome, List, [], ◌∷◌, ◌++◌, if◌then◌else◌, length, slice_set as set}
use Rattle.std.specs.List.{remove}
use Rattle.monitor_laws.specs.Lines.{Announcement, Joins, Arrives, Leaves, Waits, Goes, Ends, Stands, TraceLine}
use Rattle.monitor_laws.specs.States.{Participant, Running, TraceState, after_line, announced_by, is_live_wildcard, placed_at, stays_listed}
use Rattle.monitor_laws.specs.Faults.{last_phase, phase_on, tasks_had}
use Rattle.trace_lines.specs.Values.{place_value, said_value}
use Rattle.monitor_state.specs.Values.{condition_value}
use Rattle.monitor_state.specs.declared.change.Change.{Change}
use Rattle.monitor_state.specs.declared.change.Change.TheVariants.{Says, Plays}

-- who joins a phaser is no member of it, who arrives at one has not its last phase, and who is to wait runs
abbrev pub MayAnnounce : Announcement → Participant → Type 0
MayAnnounce (Joins p n) u = phase_on u p ≡ None
MayAnnounce (Arrives p) u = IfSome (phase_on u p) (λ m. m < last_phase)
MayAnnounce (Leaves p) u = Unit {0}
MayAnnounce (Waits p n) u = u.condition ≡ Running
MayAnnounce Goes u = Unit {0}
MayAnnounce Ends u = Unit {0}
MayAnnounce Stands u = Unit {0}

-- the list with v in place i, where v stays
abbrev pub put_at : List Participant → ℕ → Participant → List Participant
put_at us i v = if stays_listed v then set us i v else remove us i

-- the list with v behind all others, where v stays
abbrev pub put_behind : List Participant → Participant → List Participant
put_behind us v = if stays_listed v then us ++ v ∷ [] else us

-- what a change makes of one
abbrev pub changed_value : Change → Participant → Participant
changed_value (Says what place) u = placed_at (place_value place) (announced_by (said_value what.now) u)
changed_value (Plays condition) u = record u { condition = condition_value condition }

-- the change may be made of this one: what is said may be announced, and who plays is a wildcard
abbrev pub MayChange : Change → Participant → Type 0
MayChange (Says what place) u = MayAnnounce (said_value what.now) u
MayChange (Plays condition) u = is_live_wildcard (condition_value condition) ≡ true

-- the memberships of one; each task that a wildcard has counts as one
abbrev pub memberships_had : Participant → ℕ
memberships_had u = length u.phases + length (tasks_had u.condition)

-- the change is what some line makes of the list
abbrev pub IsOfLine : TraceState → TraceState → Type 0
IsOfLine s t = (l : TraceLine) × (after_line s l ≡ t)
