-- From which statements the ops, the phasers and the tasks of a program's plan come: each from that of the visit that makes it.
-- Statements are told by their numbers, from 1 in the order in which they stand in the text.
use Rattle.std.specs.Prelude.{ℕ, zero, suc, ◌++◌, Bool, true, false, List, [], ◌∷◌, map, filter, slice_index_or, Option, Some, None}
use Rattle.std.specs.List.{flat_map, slice_get}
use Rattle.pl_syntax.specs.declared.tree.Program.{Program}
use Rattle.pl_syntax.specs.Tree.{Tree, done, fork, loop, plain}
use Rattle.pl_plan.specs.Unfolding.{Coming, Start, Visit, a_fork, a_loop, a_plain, a_turn, visits_of}
use Rattle.pl_plan.specs.FoldedOps.{makes_op}
use Rattle.pl_plan.specs.Forks.{fork_statements, starts_of}
use Rattle.pl_plan.specs.Tests.{of_new_phaser, of_new_task}

-- ---- what a visit makes

-- coming to this makes an op
abbrev pub comes_to_op : Coming → Bool
comes_to_op (a_plain s) = makes_op s
comes_to_op (a_fork x body) = true
comes_to_op a_loop = false
comes_to_op a_turn = false

-- the statements of those visits of which the coming passes the test, in order
abbrev pub statements_where : (Coming → Bool) → List Visit → List ℕ
statements_where test visits = map (λ (m : Visit). m.statement) (filter (λ (m : Visit). test m.coming) visits)

-- ---- the visits of a program

-- the visits of a task, by its start; one that is not forked has none
abbrev pub visits_by : Option Start → List Visit
visits_by None = []
visits_by (Some start) = visits_of start.first start.body

-- the start of task t, if it is forked
abbrev pub start_of : Program → ℕ → Option Start
start_of program t = slice_index_or (starts_of program) t None

-- the visits of task t
abbrev pub visits_of_task : Program → ℕ → List Visit
visits_of_task program t = visits_by (start_of program t)

-- the statements of such visits of all tasks, in order of the tasks
abbrev pub statements_of_all : (Coming → Bool) → Program → List ℕ
statements_of_all test program = flat_map (λ start. statements_where test (visits_by start)) (starts_of program)

-- ---- origins

-- the statements from which the ops of task t come, in order; those are left out with which it leaves its phasers at its end
abbrev pub op_origins : Program → ℕ → List ℕ
op_origins program t = statements_where comes_to_op (visits_of_task program t)

-- the statement from which op i of task t comes; none for an op of its end
abbrev pub op_origin : Program → ℕ → ℕ → Option ℕ
op_origin program t i = slice_get (op_origins program t) i

-- the statements that make the phasers, in order of number
abbrev pub phaser_origins : Program → List ℕ
phaser_origins program = statements_of_all of_new_phaser program

-- the statements that draw the tasks from 1 on, in order of number
abbrev pub task_origins : Program → List ℕ
task_origins program = statements_of_all of_new_task program

-- the statement that makes phaser p
abbrev pub phaser_origin : Program → ℕ → Option ℕ
phaser_origin program p = slice_get (phaser_origins program) p

-- the statement that draws task t, by those that draw the tasks from 1 on; none for task 0
abbrev pub drawing_statement : List ℕ → ℕ → Option ℕ
drawing_statement statements zero = None
drawing_statement statements (suc t) = slice_get statements t

-- the same of a program
abbrev pub task_origin : Program → ℕ → Option ℕ
task_origin program t = drawing_statement (task_origins program) t

-- the statement that forks task t: 0 for task 0, none for one that is not forked
abbrev pub fork_origin : Program → ℕ → Option ℕ
fork_origin program t = slice_index_or (fork_statements program) t None

-- the last of these numbers, or this one
abbrev pub last_or : ℕ → List ℕ → ℕ
last_or n [] = n
last_or n (m ∷ ms) = last_or m ms

-- the last of these numbers, if there is one
abbrev pub last_of : List ℕ → Option ℕ
last_of [] = None
last_of (n ∷ ns) = Some (last_or n ns)

-- the statement of the last visit of task t; none where it has no visit
abbrev pub last_origin : Program → ℕ → Option ℕ
last_origin program t = last_of (map (λ (m : Visit). m.statement) (visits_of_task program t))

-- ---- the statements of the text

-- all statements, in order of number, each as it is come to
abbrev pub written_statements : Tree → List Coming
written_statements done = []
written_statements (plain s rest) = a_plain s ∷ written_statements rest
written_statements (fork x body rest) = a_fork x body ∷ (written_statements body ++ written_statements rest)
written_statements (loop k body rest) = a_loop ∷ (written_statements body ++ written_statements rest)

-- the statement with this number, if there is one: they are counted from 1
abbrev pub statement_in : List Coming → ℕ → Option Coming
statement_in statements zero = None
statement_in statements (suc n) = slice_get statements n
