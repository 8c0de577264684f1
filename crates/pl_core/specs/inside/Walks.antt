-- A walk along the codes of the tasks, in order of number, to given places.
use Rattle.std.specs.Prelude.{◌≡◌, ℕ, ◌+◌, ◌<◌, ◌≤◌, List, Option, Some, None, length, slice_get, slice_set, nat_lt, option_map, if◌then◌else◌}
use Rattle.armus_base.specs.declared.event.Event.{Event}
use Rattle.armus_base.specs.declared.op.Op.{Op}
use Rattle.armus_base.specs.declared.op.Op.TheVariants.{Await, Fork}
use Rattle.armus_base.specs.Plans.{Plan, code_of}
use Rattle.armus_base.specs.Limits.{max_ops}
use Rattle.armus_base.specs.States.{Phases, awaited, updated}
use Rattle.armus_base.specs.Runs.{Place, first_place}
use Rattle.armus_base.specs.Places.{done_by, forked_at, state_at}
use Rattle.armus_base.specs.CheckedPlans.{IsCheckedPlan}
use Rattle.pl_core.specs.declared.place.Place.{Place as KeptPlace}
use Rattle.pl_core.specs.declared.task.TaskRecord.{TaskRecord}
use Rattle.pl_core.specs.declared.phase_table.MemberTable.{MemberTable}
use Rattle.pl_core.specs.inside.Changes.{after_fork}
use Rattle.pl_core.specs.inside.Ops.{action_of}
use Rattle.pl_core.specs.inside.Enrolling.{HasCells}
use Rattle.pl_core.specs.inside.PhaseTables.{phases_in}
use Rattle.pl_core.specs.Tasks.{actions_before}
use Rattle.pl_core.specs.inside.KeptTasks.{begun, event_in}
use Rattle.pl_core.specs.calls.Worlds.{places_at}

-- of the places a: those of the tasks below t, and no other task has made a step
abbrev pub walked : (ℕ → Place) → ℕ → ℕ → Place
walked a t u = if nat_lt u t then a u else first_place

-- the same, but that task t has made its first k actions
abbrev pub walking : (ℕ → Place) → ℕ → ℕ → ℕ → Place
walking a t k = updated (walked a t) t (record { done = k; dropped = None })

-- what is kept of task u is its given place, and where it stands there
pub record IsPlaced (plan : Plan) (places : List KeptPlace) (u : ℕ) (task : TaskRecord) : Type 0 where
  pub place : slice_get places u ≡ Some task.place
  pub event : task.event ≡ event_in (state_at plan (places_at plan places)) u task.place.refused
  pub within : task.op ≤ length (code_of plan u)
  pub events : task.place.events ≡ actions_before (code_of plan u) task.op + begun task

-- the phases, and who is forked, are those at the places b, and the tasks below t are settled
pub record HasWalked (plan : Plan) (places : List KeptPlace) (b : ℕ → Place) (t : ℕ) (tasks : List TaskRecord) (table : MemberTable) : Type 0 where
  pub checked : IsCheckedPlan plan
  pub one_each : length tasks ≡ length plan.parents
  pub cells : HasCells plan table
  pub columns : table.phasers ≡ length plan.makers
  pub phases : phases_in table ≡ (state_at plan b).phases
  pub forked : (u : ℕ) (task : TaskRecord) → slice_get tasks u ≡ Some task → task.forked ≡ forked_at plan (done_by b) u
  pub settled : (u : ℕ) (task : TaskRecord) → u < t → slice_get tasks u ≡ Some task → IsPlaced plan places u task

-- what is kept when task c, if there is one, is forked
abbrev pub with_forked : List TaskRecord → ℕ → Option TaskRecord → List TaskRecord
with_forked tasks c None = tasks
with_forked tasks c (Some child) = slice_set tasks c (after_fork child)

-- what is kept of the tasks after the op
abbrev pub marked_by : List TaskRecord → Op → List TaskRecord
marked_by tasks (Fork c) = with_forked tasks c.0 (slice_get tasks c.0)
marked_by tasks op = tasks

-- whom the op forks has a number below n
abbrev pub ForksBelow : ℕ → Op → Type 0
ForksBelow n (Fork c) = c.0 < n
ForksBelow n op = Unit {0}

-- what the op awaits has a number below n
abbrev pub AwaitsBelow : ℕ → Option Op → Type 0
AwaitsBelow n (Some (Await p off)) = p.0 < n
AwaitsBelow n op = Unit {0}

-- no phase on the phaser that the op awaits is above the number of all ops
abbrev pub AwaitsNear : Phases → Option Op → Type 0
AwaitsNear m (Some (Await p off)) = (n : ℕ) → m p.0 ≡ Some n → n ≤ max_ops
AwaitsNear m op = Unit {0}

-- the event of an await at these phases
abbrev pub event_of_op : Option Op → Phases → Option Event
event_of_op op = awaited (option_map action_of op)
