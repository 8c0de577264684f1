-- What is known of the first fault of a program's unfolding, by the stages before it.
use Rattle.std.specs.Prelude.{◌≡◌, ℕ, ◌+◌, ◌==◌, ◌||◌, if◌then◌else◌, List, [], ◌∷◌, ◌++◌, length, slice_index_or, Option, Some, None}
use Rattle.armus_base.specs.declared.ids.TaskId.{TaskId}
use Rattle.pl_syntax.specs.declared.tree.Program.{Program}
use Rattle.pl_syntax.specs.Tree.{adv, await, dereg, new_task, reg}
use Rattle.armus_base.specs.Numbers.{phaser, task}
use Rattle.pl_plan.specs.Unfolding.{Coming, Thing, UnfoldingState, a_fork, a_phaser, a_plain, a_task, already_forked, already_member, not_drawn_here, not_member, opening_state, other_kind, too_many_cells, too_many_ops, too_many_phasers, too_many_tasks, unknown_name}
use Rattle.pl_plan.specs.Tests.{first_thing, is_task, phaser_wanted, task_number}
use Rattle.pl_plan.specs.Stages.{IsFirstCheckFault, Stage, begins, comes, leaves}
use Rattle.explain_check.specs.declared.scene.LoopTurn.{LoopTurn}
use Rattle.explain_check.specs.declared.scene.Matter.{Matter}
use Rattle.explain_check.specs.declared.scene.Matter.TheVariants as m
use Rattle.explain_check.specs.declared.scene.NamedPhaser.{NamedPhaser}
use Rattle.explain_check.specs.declared.scene.NamedTask.{NamedTask}
use Rattle.explain_check.specs.declared.scene.Scene.{Scene}
use Rattle.explain_check.specs.declared.scene.Verb.{Verb}
use Rattle.explain_check.specs.declared.scene.Verb.TheVariants as v
use Rattle.explain_check.specs.Deeds.{Deed, did_draw, did_fork, last_that, did_leave, did_make, name_given, did_register, stage_statement}
use Rattle.explain_check.specs.Turns.{loops_of, turns_in, visits_among}

-- the current task of a stage
abbrev pub current_task : Stage → ℕ
current_task (begins t) = t
current_task (comes t m) = t
current_task (leaves t p) = t

-- the unfolding before a fault: its first state, the stages, and the state after them
pub record Past : Type 0 where
  pub first : UnfoldingState
  pub stages : List Stage
  pub there : UnfoldingState

module _ (past : Past) where
  -- the last stage that did it
  abbrev pub done_by : Deed → Option Stage
  done_by did = last_that did past.first past.stages

  -- task c, with the name of the visit that drew it
  abbrev pub named_task : ℕ → NamedTask
  named_task c = record { t = task c; name = name_given (done_by (did_draw c)) }

  -- phaser p, with the name of the visit that made it
  abbrev pub named_phaser : ℕ → NamedPhaser
  named_phaser p = record { p = phaser p; name = name_given (done_by (did_make p)) }

  -- the statement of that visit
  abbrev pub drawn_at : ℕ → ℕ
  drawn_at c = stage_statement (done_by (did_draw c))

  abbrev pub made_at : ℕ → ℕ
  made_at p = stage_statement (done_by (did_make p))

  -- the statement of the visit that forked task c, and 0 for task 0
  abbrev pub forked_at : ℕ → ℕ
  forked_at c = stage_statement (done_by (did_fork c))

  -- the task that drew task c
  abbrev pub parent_number : Option TaskId → ℕ
  parent_number None = 0
  parent_number (Some u) = u.0

  -- ---- what is wrong

  -- with a name, by what it stands for
  abbrev pub about_name : Verb → List ℕ → Option Thing → Matter
  about_name verb x None = m.UnknownName x
  about_name verb x (Some (a_phaser p)) = m.TaskWanted x verb (named_phaser p) (made_at p)
  about_name verb x (Some (a_task c)) = m.PhaserWanted x verb (named_task c) (drawn_at c)

  -- with the names of a statement: of a reg with the second one where the first one is that of a task
  abbrev pub about_names : Coming → Matter
  about_names (a_fork x body) = about_name v.Fork x (past.there.names x)
  about_names (a_plain (reg x y)) =
      if is_task (past.there.names x) then about_name v.Reg y (past.there.names y) else about_name v.Reg x (past.there.names x)
  about_names (a_plain (dereg x)) = about_name v.Dereg x (past.there.names x)
  about_names (a_plain (adv x)) = about_name v.Adv x (past.there.names x)
  about_names (a_plain (await x off)) = about_name v.Await x (past.there.names x)
  about_names c = m.TooManyVisits

  -- task t is no member of phaser p: it has left it, or it never was one
  abbrev pub about_member : ℕ → Option Stage → Matter
  about_member p None = m.NeverMember (named_phaser p)
  about_member p (Some stage) = m.HasLeft (named_phaser p) (stage_statement (Some stage))

  -- task c is a member of phaser p
  abbrev pub about_registered : ℕ → ℕ → Matter
  about_registered c p = m.AlreadyMember (named_task c) (named_phaser p) (stage_statement (done_by (did_register c p)))

  -- another task drew task c
  abbrev pub about_drawn : ℕ → Matter
  about_drawn c =
      m.NotDrawnHere (named_task c) (named_task (parent_number (slice_index_or past.there.plan.parents c None))) (drawn_at c)

  -- so many tasks and phasers, with the one that is drawn or made
  abbrev pub about_cells : Coming → Matter
  about_cells (a_plain (new_task x)) = m.TooManyCells (length past.there.plan.parents + 1) (length past.there.plan.makers)
  about_cells c = m.TooManyCells (length past.there.plan.parents) (length past.there.plan.makers + 1)

  -- at a visit of task t, by the kind of the fault
  abbrev pub about_visit : ℕ → ℕ → Coming → Matter
  about_visit kind t c =
      if (kind == unknown_name) || (kind == other_kind) then about_names c
      else (if kind == not_member then about_member (phaser_wanted past.there c) (done_by (did_leave t (phaser_wanted past.there c)))
      else (if kind == already_member then about_registered (task_number (first_thing past.there c)) (phaser_wanted past.there c)
      else (if kind == not_drawn_here then about_drawn (task_number (first_thing past.there c))
      else (if kind == already_forked
      then m.AlreadyForked (named_task (task_number (first_thing past.there c))) (forked_at (task_number (first_thing past.there c)))
      else (if kind == too_many_tasks then m.TooManyTasks
      else (if kind == too_many_phasers then m.TooManyPhasers
      else (if kind == too_many_ops then m.TooManyOps
      else (if kind == too_many_cells then about_cells c else m.TooManyVisits))))))))

  -- at a stage; one that begins a task has no fault
  abbrev pub about : ℕ → Stage → Matter
  about kind (comes t m) = about_visit kind t m.coming
  about kind (leaves t p) = m.TooManyOpsAtEnd (named_phaser p)
  about kind (begins t) = m.TooManyVisits

  -- the turns of the loops around a stage; there are none around the end of a task
  abbrev pub turns_around : Stage → List LoopTurn
  turns_around (comes t m) =
      turns_in (loops_of (slice_index_or past.there.starts t None) m.statement) (visits_among t (past.stages ++ comes t m ∷ []))
  turns_around stage = []

-- the unfolding of a program before its first fault
abbrev pub past_of : (program : Program) (scene : Scene) → IsFirstCheckFault program scene.fault → Past
past_of program scene found = record { first = opening_state program.body; stages = found.stages; there = found.there }

-- what is known of the first fault of a program is so by the stages before it
pub record IsScene (program : Program) (scene : Scene) : Type 0 where
  pub found : IsFirstCheckFault program scene.fault
  pub task_is : scene.task ≡ named_task (past_of program scene found) (current_task found.stage)
  pub forked_is : scene.forked ≡ forked_at (past_of program scene found) (current_task found.stage)
  pub turns_are : scene.turns ≡ turns_around (past_of program scene found) found.stage
  pub matter_is : scene.matter ≡ about (past_of program scene found) scene.fault.kind found.stage
