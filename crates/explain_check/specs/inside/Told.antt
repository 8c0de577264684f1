-- What is told of a fault, by the notes and by what was looked at.
use Rattle.std.specs.Prelude.{◌≡◌, ℕ, ◌+◌, ◌-◌, ◌==◌, ◌||◌, ◌&&◌, ◌<◌, ◌≤◌, ◌^◌, length, if◌then◌else◌, nat_le, nat_lt, List, [], map, Option, Some, None}
use Rattle.armus_base.specs.declared.ids.TaskId.{TaskId}
use Rattle.armus_base.specs.Numbers.{phaser, task}
use Rattle.pl_plan.specs.Unfolding.{already_forked, already_member, not_drawn_here, not_member, other_kind, too_many_cells, too_many_ops, too_many_phasers, too_many_tasks, unknown_name}
use Rattle.pl_plan.specs.declared.step.FlatStep.{FlatStep}
use Rattle.pl_plan.specs.declared.step.FlatStep.TheVariants as a_step
use Rattle.pl_plan.specs.declared.step.Thing as code
use Rattle.pl_plan.specs.declared.step.Thing.TheVariants as a_thing
use Rattle.pl_plan.specs.inside.Steps.{IsList, IsSpelled}
use Rattle.pl_syntax.specs.Tree.{Tree}
use Rattle.explain_check.specs.Turns.{loops_around}
use Rattle.explain_check.specs.declared.notes.LastTurn.{LastTurn}
use Rattle.explain_check.specs.declared.notes.Note.{Note}
use Rattle.explain_check.specs.declared.scene.LoopTurn.{LoopTurn}
use Rattle.explain_check.specs.declared.scene.Matter.{Matter}
use Rattle.explain_check.specs.declared.scene.Matter.TheVariants as m
use Rattle.explain_check.specs.declared.scene.NamedPhaser.{NamedPhaser}
use Rattle.explain_check.specs.declared.scene.NamedTask.{NamedTask}
use Rattle.explain_check.specs.declared.scene.Scene.{Scene}
use Rattle.explain_check.specs.declared.seek.FaultPlace.{FaultPlace}
use Rattle.explain_check.specs.declared.seek.FaultPlace.TheVariants as p
use Rattle.explain_check.specs.declared.seek.FoundFault.{FoundFault}
use Rattle.explain_check.specs.declared.scene.Verb.{Verb}
use Rattle.explain_check.specs.declared.scene.Verb.TheVariants as v
use Rattle.explain_check.specs.declared.sight.StepSight.{StepSight}
use Rattle.explain_check.specs.inside.Noted.{a_deed, last_noted, name_by, phaser_in, task_in, turn_at}

-- the statement of a note, and 0 where there is none
abbrev pub statement_noted : Option Note → ℕ
statement_noted None = 0
statement_noted (Some note) = note.statement

module _ (names : ℕ → List ℕ) where
  -- the name in a note
  abbrev pub name_noted : Option Note → List ℕ
  name_noted None = []
  name_noted (Some note) = name_by names note.name

-- the number of the task that drew a task
abbrev pub parent_told : Option TaskId → ℕ
parent_told None = 0
parent_told (Some u) = u.0

-- the phaser of which the task has to be a member
abbrev pub wanted_told : StepSight → FlatStep → ℕ
wanted_told s (a_step.Reg x y) = phaser_in s.y
wanted_told s (a_step.Fork x after) = phaser_in s.x
wanted_told s (a_step.Dereg x) = phaser_in s.x
wanted_told s (a_step.Adv x) = phaser_in s.x
wanted_told s (a_step.Await x off) = phaser_in s.x
wanted_told s (a_step.NewTask x) = phaser_in s.x
wanted_told s (a_step.NewPhaser x) = phaser_in s.x
wanted_told s a_step.Skip = phaser_in s.x
wanted_told s (a_step.Loop k after steady) = phaser_in s.x

-- so many tasks and phasers, with the one that is drawn or made
abbrev pub cells_told : StepSight → FlatStep → Matter
cells_told s (a_step.NewTask x) = m.TooManyCells (s.tasks + 1) s.phasers
cells_told s (a_step.NewPhaser x) = m.TooManyCells s.tasks (s.phasers + 1)
cells_told s (a_step.Fork x after) = m.TooManyCells s.tasks (s.phasers + 1)
cells_told s (a_step.Reg x y) = m.TooManyCells s.tasks (s.phasers + 1)
cells_told s (a_step.Dereg x) = m.TooManyCells s.tasks (s.phasers + 1)
cells_told s (a_step.Adv x) = m.TooManyCells s.tasks (s.phasers + 1)
cells_told s (a_step.Await x off) = m.TooManyCells s.tasks (s.phasers + 1)
cells_told s a_step.Skip = m.TooManyCells s.tasks (s.phasers + 1)
cells_told s (a_step.Loop k after steady) = m.TooManyCells s.tasks (s.phasers + 1)

-- of a limit, by the kind of the fault
abbrev pub limit_told : ℕ → StepSight → Matter
limit_told kind s =
    if kind == too_many_tasks then m.TooManyTasks
    else (if kind == too_many_phasers then m.TooManyPhasers
    else (if kind == too_many_ops then m.TooManyOps
    else (if kind == too_many_cells then cells_told s s.item.step else m.TooManyVisits)))

module _ (names : ℕ → List ℕ) (notes : List Note) where
  -- a task with its name
  abbrev pub task_told : ℕ → NamedTask
  task_told c = record { t = task c; name = name_noted names (last_noted (a_deed 0 c 0) notes) }

  -- a phaser with its name
  abbrev pub phaser_told : ℕ → NamedPhaser
  phaser_told p = record { p = phaser p; name = name_noted names (last_noted (a_deed 1 p 0) notes) }

  -- with a name, by what it stands for
  abbrev pub thing_told : Verb → List ℕ → code.Thing → Matter
  thing_told verb x a_thing.Nothing = m.UnknownName x
  thing_told verb x (a_thing.Phaser p) = m.TaskWanted x verb (phaser_told p.0) (statement_noted (last_noted (a_deed 1 p.0 0) notes))
  thing_told verb x (a_thing.Task c) = m.PhaserWanted x verb (task_told c.0) (statement_noted (last_noted (a_deed 0 c.0 0) notes))

  -- with the names of a reg
  abbrev pub reg_told : List ℕ → List ℕ → code.Thing → code.Thing → Matter
  reg_told x y (a_thing.Task c) other = thing_told v.Reg y other
  reg_told x y (a_thing.Phaser p) other = thing_told v.Reg x (a_thing.Phaser p)
  reg_told x y a_thing.Nothing other = thing_told v.Reg x a_thing.Nothing

  -- with the names of a step
  abbrev pub names_told : StepSight → FlatStep → Matter
  names_told s (a_step.Fork x after) = thing_told v.Fork (names x.0) s.x
  names_told s (a_step.Reg x y) = reg_told (names x.0) (names y.0) s.x s.y
  names_told s (a_step.Dereg x) = thing_told v.Dereg (names x.0) s.x
  names_told s (a_step.Adv x) = thing_told v.Adv (names x.0) s.x
  names_told s (a_step.Await x off) = thing_told v.Await (names x.0) s.x
  names_told s (a_step.NewTask x) = m.TooManyVisits
  names_told s (a_step.NewPhaser x) = m.TooManyVisits
  names_told s a_step.Skip = m.TooManyVisits
  names_told s (a_step.Loop k after steady) = m.TooManyVisits

  -- the task is no member of phaser p, which it left by the statement of this note
  abbrev pub member_told : ℕ → Option Note → Matter
  member_told p None = m.NeverMember (phaser_told p)
  member_told p (Some note) = m.HasLeft (phaser_told p) note.statement

  -- task c is a member of phaser p
  abbrev pub registered_told : ℕ → ℕ → Matter
  registered_told c p = m.AlreadyMember (task_told c) (phaser_told p) (statement_noted (last_noted (a_deed 3 c p) notes))

  -- another task drew task c
  abbrev pub drawn_told : ℕ → Option TaskId → Matter
  drawn_told c parent = m.NotDrawnHere (task_told c) (task_told (parent_told parent)) (statement_noted (last_noted (a_deed 0 c 0) notes))

  -- task c is forked
  abbrev pub forked_told : ℕ → Matter
  forked_told c = m.AlreadyForked (task_told c) (statement_noted (last_noted (a_deed 2 c 0) notes))

  -- at a visit, by the kind of the fault
  abbrev pub visit_told : ℕ → StepSight → Matter
  visit_told kind s =
      if (kind == unknown_name) || (kind == other_kind) then names_told s s.item.step
      else (if kind == not_member then member_told (wanted_told s s.item.step) (last_noted (a_deed 4 s.t.0 (wanted_told s s.item.step)) notes)
      else (if kind == already_member then registered_told (task_in s.x) (wanted_told s s.item.step)
      else (if kind == not_drawn_here then drawn_told (task_in s.x) s.parent
      else (if kind == already_forked then forked_told (task_in s.x) else limit_told kind s))))

-- ---- loops

-- a loop, by its number, with the last turn that is kept of it
abbrev pub turn_told : List LastTurn → ℕ → ℕ → LoopTurn
turn_told last_turns t n = record { statement = n; turn = turn_at last_turns t (n - 1) }

-- the end of a loop around statement n, if the step with this index is one
abbrev pub enters : FlatStep → ℕ → ℕ → Option ℕ
enters (a_step.Loop k after steady) at n = if nat_lt (at + 1) n && nat_le n after then Some after else None
enters (a_step.Fork x after) at n = None
enters (a_step.NewTask x) at n = None
enters (a_step.NewPhaser x) at n = None
enters (a_step.Reg x y) at n = None
enters (a_step.Dereg x) at n = None
enters (a_step.Adv x) at n = None
enters (a_step.Await x off) at n = None
enters a_step.Skip at n = None

-- the index behind a statement with its body
abbrev pub index_behind : FlatStep → ℕ → ℕ
index_behind (a_step.Loop k after steady) at = after
index_behind (a_step.Fork x after) at = after
index_behind (a_step.NewTask x) at = at + 1
index_behind (a_step.NewPhaser x) at = at + 1
index_behind (a_step.Reg x y) at = at + 1
index_behind (a_step.Dereg x) at = at + 1
index_behind (a_step.Adv x) at = at + 1
index_behind (a_step.Await x off) at = at + 1
index_behind a_step.Skip at = at + 1

-- the turns of the loops around statement n, in the statements of these steps from one index on, before another
abbrev pub AreTurns : List FlatStep → ℕ → ℕ → List LastTurn → ℕ → ℕ → List LoopTurn → Type 0
AreTurns steps first after last_turns t n turns =
    (count : ℕ) (names : ℕ → List ℕ) (tree : Tree) → IsSpelled count names steps first tree after → turns ≡ map (turn_told last_turns t) (loops_around (first + 1) tree n)

-- ---- scenes

-- what is told of a fault at a visit
pub record VisitScene (names : ℕ → List ℕ) (notes : List Note) (last_turns : List LastTurn) (steps : List FlatStep) (stop : FoundFault) (sight : StepSight) (scene : Scene) : Type 0 where
  pub fault_is : scene.fault ≡ stop.fault
  pub task_is : scene.task ≡ task_told names notes sight.t.0
  pub forked_is : scene.forked ≡ statement_noted (last_noted (a_deed 2 sight.t.0 0) notes)
  pub turns_are : AreTurns steps stop.first stop.after last_turns sight.t.0 (sight.item.at + 1) scene.turns
  pub matter_is : scene.matter ≡ visit_told names notes stop.fault.kind sight

-- what is told of a fault at the end of a task
pub record EndScene (names : ℕ → List ℕ) (notes : List Note) (stop : FoundFault) (t p : ℕ) (scene : Scene) : Type 0 where
  pub fault_is : scene.fault ≡ stop.fault
  pub task_is : scene.task ≡ task_told names notes t
  pub forked_is : scene.forked ≡ statement_noted (last_noted (a_deed 2 t 0) notes)
  pub turns_are : scene.turns ≡ []
  pub matter_is : scene.matter ≡ m.TooManyOpsAtEnd (phaser_told names notes p)

-- what is told of a fault
abbrev pub PlaceScene : (ℕ → List ℕ) → List Note → List LastTurn → List FlatStep → FoundFault → FaultPlace → Scene → Type 0
PlaceScene names notes last_turns steps stop (p.Visit sight) scene = VisitScene names notes last_turns steps stop sight scene
PlaceScene names notes last_turns steps stop (p.End t q) scene = EndScene names notes stop t.0 q.0 scene

-- what has to be so that it can be told
pub record CanBeTold (last_turns : List LastTurn) (steps : List FlatStep) (first after : ℕ) (sight : StepSight) : Type 0 where
  pub few : length steps < 2 ^ 32
  pub many : length last_turns ≡ length steps
  pub within : after ≤ length steps
  pub list : (count : ℕ) × IsList count steps first after
  pub tasks : sight.tasks ≤ 4096
  pub phasers : sight.phasers ≤ 1024
  pub small : sight.item.at + 1 < 2 ^ 32

-- the same of a fault
abbrev pub PlaceCanBeTold : List LastTurn → List FlatStep → ℕ → ℕ → FaultPlace → Type 0
PlaceCanBeTold last_turns steps first after (p.Visit sight) = CanBeTold last_turns steps first after sight
PlaceCanBeTold last_turns steps first after (p.End t q) = Unit {0}
