-- Laws of origins: what is made is made by the visit from whose statement it comes.
use Rattle.pl_plan.specs.Forks.{starts_of}
use Rattle.std.specs.Prelude.{length, ◌≡◌, ℕ, Bool, false, true, List, [], ◌++◌, filter, slice_index_or, Contains, Option, Some, None, Ok, suc, ◌+◌, ◌<◌, ◌∷◌, map, ◌-◌, ◌≤◌}
use Rattle.std.specs.List.{AllZip, slice_get}
use Rattle.armus_base.specs.declared.ids.TaskId.{TaskId}
use Rattle.armus_base.specs.declared.ids.PhaserId.{PhaserId}
use Rattle.armus_base.specs.declared.offset.Offset.{Offset}
use Rattle.armus_base.specs.declared.op.Op.{Op}
use Rattle.armus_base.specs.declared.op.Op.TheVariants.{Make, Reg, Fork, Adv, Drop, Await}
use Rattle.armus_base.specs.Numbers.{phaser, task}
use Rattle.armus_base.specs.Plans.{Plan}
use Rattle.pl_syntax.specs.declared.tree.Program.{Program}
use Rattle.pl_syntax.specs.Tree.{Tree, new_phaser, reg, dereg, adv, await}
use Rattle.pl_plan.specs.calls.Folding.{drops_of}
use Rattle.pl_plan.specs.Unfolding.{Coming, Start, Visit, a_fork, a_plain, plan_of, a_loop, a_turn}
use Rattle.pl_plan.specs.Tests.{of_new_phaser, of_new_task}
use Rattle.source_map.specs.Turns.{TurnedVisit, turned_visits_of_task}
use Rattle.source_map.specs.Origins.{comes_to_op, op_origin, start_of, visits_by, visits_of_task, phaser_origin, task_origin, statements_where, written_statements}

-- ---- ops

-- coming to this makes this op
pub data MakesOp : Coming → Op → Type 0 where
  makes : (x : List ℕ) (p : PhaserId) → MakesOp (a_plain (new_phaser x)) (Make p)
  registers : (x y : List ℕ) (c : TaskId) (p : PhaserId) → MakesOp (a_plain (reg x y)) (Reg c p)
  leaves : (x : List ℕ) (p : PhaserId) → MakesOp (a_plain (dereg x)) (Drop p)
  advances : (x : List ℕ) (p : PhaserId) → MakesOp (a_plain (adv x)) (Adv p)
  awaits : (x : List ℕ) (off : Offset) (p : PhaserId) → MakesOp (a_plain (await x off)) (Await p off)
  forks : (x : List ℕ) (body : Tree) (c : TaskId) → MakesOp (a_fork x body) (Fork c)

-- these visits make these ops, one each
abbrev pub MakeOps : List Visit → List Op → Type 0
MakeOps ms os = AllZip (λ (m : Visit) (o : Op). MakesOp m.coming o) ms os

-- the visits that make an op
abbrev pub op_visits : List Visit → List Visit
op_visits ms = filter (λ (m : Visit). comes_to_op m.coming) ms

-- the code of a task: the ops of its visits, in order, and behind them the Drops of its end, of which it has some in PL 2 alone
pub record IsCodeOfVisits (two : Bool) (start : Start) (code : List Op) : Type 0 where
  pub made : List Op
  pub left : List ℕ  -- phasers
  pub by_visits : MakeOps (op_visits (visits_by (Some start))) made
  pub code_is : code ≡ made ++ drops_of left
  pub in_two : two ≡ false → left ≡ []

-- the same by the task's start; one that is not forked has no op
abbrev pub IsCodeByStart : Bool → Option Start → List Op → Type 0
IsCodeByStart two None code = code ≡ []
IsCodeByStart two (Some start) code = IsCodeOfVisits two start code

-- each code of a program's plan is that of its task's visits
abbrev pub CodesAreOfVisits : Type 0
CodesAreOfVisits =
    (program : Program) (plan : Plan) → plan_of program ≡ Ok plan → (t : ℕ) → IsCodeByStart program.two (start_of program t) (slice_index_or plan.codes t [])

-- where op i of task t, which is this one, comes from: a visit of the task that makes it, or the end of the task
pub data ComesFrom (program : Program) (t i : ℕ) (o : Op) : Type 0 where
  a_visit : (m : Visit) → Contains (visits_of_task program t) m → MakesOp m.coming o → op_origin program t i ≡ Some m.statement → ComesFrom program t i o
  its_end : (p : ℕ) → program.two ≡ true → o ≡ Drop (phaser p) → op_origin program t i ≡ None → ComesFrom program t i o

-- each op has its origin
abbrev pub OpsHaveOrigins : Type 0
OpsHaveOrigins =
    (program : Program) (plan : Plan) → plan_of program ≡ Ok plan → (t i : ℕ) (o : Op) → slice_get (slice_index_or plan.codes t []) i ≡ Some o →
    ComesFrom program t i o

-- and each origin an op
abbrev pub OriginsHaveOps : Type 0
OriginsHaveOps =
    (program : Program) (plan : Plan) → plan_of program ≡ Ok plan → (t i n : ℕ) → op_origin program t i ≡ Some n →
    (o : Op) × (slice_get (slice_index_or plan.codes t []) i ≡ Some o)

-- ---- phasers and tasks

-- for each visit of the tasks from t on that passes the test, its task, in the order of the visits
abbrev pub tasks_from : (Coming → Bool) → ℕ → List (Option Start) → List ℕ
tasks_from test t [] = []
tasks_from test t (start ∷ starts) = map (λ (n : ℕ). t) (statements_where test (visits_by start)) ++ tasks_from test (t + 1) starts

-- the same of all tasks, as `statements_of_all` has the statements of these visits
abbrev pub tasks_of_all : (Coming → Bool) → Program → List ℕ
tasks_of_all test program = tasks_from test 0 (starts_of program)

-- the phasers are made by the tasks whose visits make one, in the order of the visits
abbrev pub MakersAreOfVisits : Type 0
MakersAreOfVisits = (program : Program) (plan : Plan) → plan_of program ≡ Ok plan → plan.makers ≡ map task (tasks_of_all of_new_phaser program)

-- and the tasks from 1 on are drawn by those whose visits draw one
abbrev pub ParentsAreOfVisits : Type 0
ParentsAreOfVisits =
    (program : Program) (plan : Plan) → plan_of program ≡ Ok plan → plan.parents ≡ None ∷ map (λ t. Some (task t)) (tasks_of_all of_new_task program)

-- this is the statement of a visit of task t that passes the test
pub record IsOfVisit (program : Program) (test : Coming → Bool) (t : ℕ) (origin : Option ℕ) : Type 0 where
  pub by : Visit
  pub among : Contains (visits_of_task program t) by
  pub passes : test by.coming ≡ true
  pub is : origin ≡ Some by.statement

-- each phaser has its origin, which is of a visit of its maker
abbrev pub PhasersHaveOrigins : Type 0
PhasersHaveOrigins =
    (program : Program) (plan : Plan) → plan_of program ≡ Ok plan → (p : ℕ) → p < length plan.makers →
    IsOfVisit program of_new_phaser (slice_index_or plan.makers p (task 0)).0 (phaser_origin program p)

-- so has each task from 1 on, of a visit of its parent
abbrev pub TasksHaveOrigins : Type 0
TasksHaveOrigins =
    (program : Program) (plan : Plan) → plan_of program ≡ Ok plan → (c : ℕ) → suc c < length plan.parents →
    (u : ℕ) × (slice_index_or plan.parents (suc c) None ≡ Some (task u)) × IsOfVisit program of_new_task u (task_origin program (suc c))

-- ---- the statements of the text

-- the statement that is come to: that of a turn is its loop
abbrev pub statement_of : Coming → Coming
statement_of a_turn = a_loop
statement_of c = c

-- each visit is a coming to the statement that stands at its number
abbrev pub VisitsAreOfText : Type 0
VisitsAreOfText =
    (program : Program) (t : ℕ) (m : Visit) → Contains (visits_of_task program t) m →
    (1 ≤ m.statement) × (slice_get (written_statements program.body) (m.statement - 1) ≡ Some (statement_of m.coming))

-- so each Await comes from an await, with its offset
abbrev pub AwaitsComeFromAwaits : Type 0
AwaitsComeFromAwaits =
    (program : Program) (plan : Plan) → plan_of program ≡ Ok plan → (t i : ℕ) (p : PhaserId) (off : Offset) →
    slice_get (slice_index_or plan.codes t []) i ≡ Some (Await p off) →
    (n : ℕ) × (x : List ℕ) × (op_origin program t i ≡ Some (suc n)) × (slice_get (written_statements program.body) n ≡ Some (a_plain (await x off)))

-- ---- turns

-- the visits of a task with their turns are its visits; so op i with its turns is op i
abbrev pub TurnsAreOfVisits : Type 0
TurnsAreOfVisits = (program : Program) (t : ℕ) → map (λ (v : TurnedVisit). v.visit) (turned_visits_of_task program t) ≡ visits_of_task program t
