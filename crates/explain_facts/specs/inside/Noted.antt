-- A walk along the codes of the tasks, in order of number, that marks the statements from which awaits come.
use Rattle.std.specs.Prelude.{◌≡◌, ℕ, ◌+◌, ◌<◌, ◌&&◌, ◌||◌, Bool, false, List, Option, Some, None, length, slice_index_or}
use Rattle.armus_base.specs.declared.event.Event.{Event}
use Rattle.armus_base.specs.declared.op.Op.{Op}
use Rattle.armus_base.specs.Places.{some_before, state_at}
use Rattle.armus_base.specs.Plans.{Plan, actions, code_of}
use Rattle.armus_base.specs.Runs.{Place}
use Rattle.armus_base.specs.States.{Phases, awaited}
use Rattle.pl_core.specs.Tasks.{actions_before}
use Rattle.pl_core.specs.inside.Ops.{action_of}
use Rattle.pl_core.specs.inside.Walks.{walking}
use Rattle.pl_syntax.specs.Tree.{count}
use Rattle.pl_syntax.specs.declared.tree.Program.{Program}
use Rattle.explain_facts.specs.ImmediateAwaits.{is_late, is_that_number, is_shared, some_op_awaits}
use Rattle.explain_facts.specs.declared.immediate.AwaitWalk.{AwaitWalk}
use Rattle.explain_facts.specs.declared.immediate.NextAwait.{NextAwait}
use Rattle.explain_facts.specs.inside.PhaseRows.{HaveRowCells, phases_in_rows}

-- ---- what is awaited

-- the event that a task with these phases is about to await by this op, if it awaits one
abbrev pub awaited_by : Op → Phases → Option Event
awaited_by op m = awaited (Some (action_of op)) m

-- it is an event of a phaser that is marked
abbrev pub is_marked_event : List Bool → Option Event → Bool
is_marked_event marks None = false
is_marked_event marks (Some e) = slice_index_or marks e.p.0 false

-- the same of an await that a task is about to make, if it makes one
abbrev pub is_marked_await : List Bool → Option NextAwait → Bool
is_marked_await marks None = false
is_marked_await marks (Some next) = slice_index_or marks next.p.0 false

-- it awaits a later phase than 0
abbrev pub is_late_await : Option NextAwait → Bool
is_late_await None = false
is_late_await (Some next) = next.is_late

-- it is number k, and it is to be marked
abbrev pub is_marked_number : Option ℕ → Bool → ℕ → Bool
is_marked_number n is_marked k = is_that_number k n && is_marked

-- ---- how far the walk has come

-- each task has made all its actions
abbrev pub all_done : Plan → ℕ → Place
all_done plan t = record { done = length (actions plan t); dropped = None }

-- of each statement whether an op of the tasks below t, or one of the first i ops of task t, comes from it and awaits an event that passes the test
pub record AreMarksAt (test : Option Event → Bool) (p : Program) (plan : Plan) (t i : ℕ) (marks : List Bool) : Type 0 where
  pub sized : length marks ≡ count p.body + 1
  pub each : (n : ℕ) → n < count p.body + 1 → slice_index_or marks n false ≡
      (some_op_awaits test p plan n t i || some_before (λ u. some_op_awaits test p plan n u (length (code_of plan u))) t)

-- the walk has gone through the codes of the tasks below t, and through the first i ops of task t
pub record HasWalkedTo (p : Program) (plan : Plan) (t i : ℕ) (w : AwaitWalk) : Type 0 where
  pub cells : HaveRowCells (length plan.parents) (length plan.makers) w.phases
  pub phases : phases_in_rows w.phases ≡ (state_at plan (walking (all_done plan) t (actions_before (code_of plan t) i))).phases
  pub shared : AreMarksAt (is_shared plan) p plan t i w.shared.items
  pub late : AreMarksAt is_late p plan t i w.late.items
