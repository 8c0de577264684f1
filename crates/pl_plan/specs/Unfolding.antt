-- The unfolding of a program: what each task comes to, what each visit does, and the plan or the first check fault.
-- Read from the end: `plan_of` unfolds the tasks in order of number, and folds the code of each; a task's visits are those of its body; `act` has the
-- tests of each statement in their order, and what it does.
use Rattle.std.specs.Prelude.{ℕ, zero, suc, ◌+◌, ◌-◌, ◌*◌, ◌==◌, Bool, true, false, not, ◌&&◌, if◌then◌else◌, is_some, List, [], ◌∷◌, ◌++◌, length, slice_set, slice_index_or, Option, Some, None, Result, Ok, Err, nat_le, nat_lt, sum_by}
use Rattle.std.specs.Str.{bytes_eq}
use Rattle.pl_plan.specs.Limits.{max_visits}
use Rattle.armus_base.specs.Limits.{max_cells, max_tasks, max_phasers, max_ops}
use Rattle.armus_base.specs.Finals.{list_below}
use Rattle.armus_base.specs.Pieces.{times}
use Rattle.armus_base.specs.declared.piece.Piece.{Piece}
use Rattle.pl_syntax.specs.declared.tree.Program.{Program}
use Rattle.pl_syntax.specs.Tree.{Tree, done, plain, fork, loop, Plain, new_task, new_phaser, reg, dereg, adv, await, skip, count}
use Rattle.armus_base.specs.declared.ids.TaskId.{TaskId}
use Rattle.armus_base.specs.declared.op.Op.{Op}
use Rattle.armus_base.specs.declared.op.Op.TheVariants as op
use Rattle.armus_base.specs.Numbers.{phaser, task}
use Rattle.armus_base.specs.Plans.{Plan}
use Rattle.pl_plan.specs.FoldedOps.{body_pieces}
use Rattle.pl_plan.specs.declared.fault.CheckFault.{CheckFault}

-- ---- what a task comes to

-- a statement without a body, a fork with its body, a loop, or a turn of a loop
pub data Coming : Type 0 where
  a_plain : Plain → Coming
  a_fork : List ℕ → Tree → Coming
  a_loop : Coming
  a_turn : Coming

-- a coming to the statement with this number
pub record Visit : Type 0 where
  pub statement : ℕ
  pub coming : Coming

-- one coming to statement n
abbrev pub visit : ℕ → Coming → Visit
visit n c = record { statement = n; coming = c }

-- the visits of a list of statements, in order; its first statement has number n
abbrev pub visits_of : ℕ → Tree → List Visit
visits_of n done = []
visits_of n (plain s rest) = visit n (a_plain s) ∷ visits_of (n + 1) rest
visits_of n (fork x body rest) = visit n (a_fork x body) ∷ visits_of (n + 1 + count body) rest
visits_of n (loop k body rest) =
    visit n a_loop ∷ (times k (visit n a_turn ∷ visits_of (n + 1) body) ++ visits_of (n + 1 + count body) rest)

-- ---- states

-- what a name stands for
pub data Thing : Type 0 where
  a_task : ℕ → Thing
  a_phaser : ℕ → Thing

-- what each name stands for, if it does
abbrev pub Names : Type 0
Names = List ℕ → Option Thing

-- an assignment overwrites the name
abbrev pub assigned : List ℕ → Thing → Names → Names
assigned x v names y = if bytes_eq x y then Some v else names y

-- with what a task is forked: the body, the number of its first statement, and the names as they are at the fork
pub record Start : Type 0 where
  pub body : Tree
  pub first : ℕ
  pub names : Names

-- the plan so far, with a code for each task; with what each task was forked, if it was; who is a member where; the current task's names;
-- and how many visits there were
pub record UnfoldingState : Type 0 where
  pub plan : Plan
  pub starts : List (Option Start)
  pub members : ℕ → ℕ → Bool  -- of a task and a phaser
  pub names : Names
  pub visits : ℕ

-- a value, or the first fault
abbrev pub Outcome : Type 0 → Type 0
Outcome A = Result A CheckFault

infixl 10 ◌>>=◌
-- one after the other, up to the first fault
abbrev pub ◌>>=◌ : {A B : Type 0} → Outcome A → (A → Outcome B) → Outcome B
(Ok x) >>= f = f x
(Err e) >>= f = Err e

-- ---- the kinds of faults

-- a name that stands for nothing
abbrev pub unknown_name : ℕ
unknown_name = 1

-- a name that stands for the other kind of thing
abbrev pub other_kind : ℕ
other_kind = 2

-- the current task is not a member
abbrev pub not_member : ℕ
not_member = 3

-- the task is a member already
abbrev pub already_member : ℕ
already_member = 4

-- the current task did not draw the task
abbrev pub not_drawn_here : ℕ
not_drawn_here = 5

-- the task is forked already
abbrev pub already_forked : ℕ
already_forked = 6

-- no task more
abbrev pub too_many_tasks : ℕ
too_many_tasks = 7

-- no phaser more
abbrev pub too_many_phasers : ℕ
too_many_phasers = 8

-- no op more
abbrev pub too_many_ops : ℕ
too_many_ops = 9

-- no visit more
abbrev pub too_many_visits : ℕ
too_many_visits = 10

-- no cell more
abbrev pub too_many_cells : ℕ
too_many_cells = 11

-- ---- tests

-- the fault of this kind at statement n
abbrev pub fault : ℕ → ℕ → CheckFault
fault kind n = record { kind = kind; statement = n }

-- the fault of this kind at statement n, unless the test holds
abbrev pub fault_unless : Bool → ℕ → ℕ → Outcome (Unit {0})
fault_unless true kind n = Ok tt
fault_unless false kind n = Err (fault kind n)

-- a task is wanted at statement n
abbrev pub as_task : ℕ → Option Thing → Outcome ℕ
as_task n None = Err (fault unknown_name n)
as_task n (Some (a_task c)) = Ok c
as_task n (Some (a_phaser p)) = Err (fault other_kind n)

-- a phaser is wanted at statement n
abbrev pub as_phaser : ℕ → Option Thing → Outcome ℕ
as_phaser n None = Err (fault unknown_name n)
as_phaser n (Some (a_task c)) = Err (fault other_kind n)
as_phaser n (Some (a_phaser p)) = Ok p

-- ---- changes of a state

-- task t's code goes on with this op
abbrev pub with_op : ℕ → Op → Plan → Plan
with_op t o plan = record plan { codes = slice_set plan.codes t (slice_index_or plan.codes t [] ++ o ∷ []) }

-- the test of the number of ops, and then the op
unfoldable pub add_op : ℕ → ℕ → Op → UnfoldingState → Outcome UnfoldingState
add_op t n o s = do
  room ← fault_unless (nat_lt (sum_by length s.plan.codes) max_ops) too_many_ops n
  Ok (record s { plan = with_op t o s.plan })

-- the members, with the answer v for task t and phaser p
abbrev pub with_member : ℕ → ℕ → Bool → (ℕ → ℕ → Bool) → ℕ → ℕ → Bool
with_member t p v members u q = if (u == t) && (q == p) then v else members u q

-- there is room for so many tasks and phasers: each task has a cell, and one for each phaser
abbrev pub has_cells : ℕ → ℕ → Bool
has_cells tasks phasers = nat_le (tasks * (phasers + 1)) max_cells

-- task t drew the task with this parent
abbrev pub is_parent : ℕ → Option TaskId → Bool
is_parent t None = false
is_parent t (Some u) = t == u.0

-- ---- visits

-- task t draws a task
abbrev pub with_new_task : ℕ → List ℕ → UnfoldingState → UnfoldingState
with_new_task t x s = record s {
  plan = record s.plan { parents = s.plan.parents ++ Some (task t) ∷ []; codes = s.plan.codes ++ [] ∷ [] };
  starts = s.starts ++ None ∷ [];
  names = assigned x (a_task (length s.plan.parents)) s.names;
}

-- task t makes a phaser, and is its one member
abbrev pub with_new_phaser : ℕ → List ℕ → UnfoldingState → UnfoldingState
with_new_phaser t x s = record s {
  plan = record s.plan { makers = s.plan.makers ++ task t ∷ [] };
  members = with_member t (length s.plan.makers) true s.members;
  names = assigned x (a_phaser (length s.plan.makers)) s.names;
}

-- with these members
abbrev pub with_members : (ℕ → ℕ → Bool) → UnfoldingState → UnfoldingState
with_members ms s = record s { members = ms }

-- what this names is a phaser of which task t is a member
unfoldable pub member_of : ℕ → ℕ → Option Thing → UnfoldingState → Outcome ℕ
member_of t n thing s = do
  p ← as_phaser n thing
  inside ← fault_unless (s.members t p) not_member n
  Ok p

-- task t drew the task with this parent, and the task is not forked
abbrev pub unforked_child_by : ℕ → ℕ → Option TaskId → Bool → Outcome (Unit {0})
unforked_child_by t n parent forked = fault_unless (is_parent t parent) not_drawn_here n >>= λ _. fault_unless (not forked) already_forked n

-- task t drew task c, and task c is not forked
abbrev pub unforked_child : ℕ → ℕ → ℕ → UnfoldingState → Outcome (Unit {0})
unforked_child t n c s = unforked_child_by t n (slice_index_or s.plan.parents c None) (is_some (slice_index_or s.starts c None))

-- task c is forked with this
abbrev pub with_start : ℕ → Start → UnfoldingState → UnfoldingState
with_start c start s = record s { starts = slice_set s.starts c (Some start) }

-- what task t does at statement n, which is one without a body: its tests in their order, and its op
unfoldable pub act : ℕ → ℕ → Plain → UnfoldingState → Outcome UnfoldingState
act t n (new_task x) s = do
  room ← fault_unless (nat_lt (length s.plan.parents) max_tasks) too_many_tasks n
  cells ← fault_unless (has_cells (length s.plan.parents + 1) (length s.plan.makers)) too_many_cells n
  Ok (with_new_task t x s)
act t n (new_phaser x) s = do
  room ← fault_unless (nat_lt (length s.plan.makers) max_phasers) too_many_phasers n
  cells ← fault_unless (has_cells (length s.plan.parents) (length s.plan.makers + 1)) too_many_cells n
  add_op t n (op.Make (phaser (length s.plan.makers))) (with_new_phaser t x s)
act t n (reg x y) s = do
  c ← as_task n (s.names x)
  p ← as_phaser n (s.names y)
  mine ← unforked_child t n c s
  inside ← fault_unless (s.members t p) not_member n
  outside ← fault_unless (not (s.members c p)) already_member n
  add_op t n (op.Reg (task c) (phaser p)) (with_members (with_member c p true s.members) s)
act t n (dereg x) s = do
  p ← member_of t n (s.names x) s
  add_op t n (op.Drop (phaser p)) (with_members (with_member t p false s.members) s)
act t n (adv x) s = do
  p ← member_of t n (s.names x) s
  add_op t n (op.Adv (phaser p)) s
act t n (await x off) s = do
  p ← member_of t n (s.names x) s
  add_op t n (op.Await (phaser p) off) s
act t n skip s = Ok s

-- task t forks task x, at statement n: the next number is that of the body's first statement
unfoldable pub act_fork : ℕ → ℕ → List ℕ → Tree → UnfoldingState → Outcome UnfoldingState
act_fork t n x body s = do
  c ← as_task n (s.names x)
  mine ← unforked_child t n c s
  add_op t n (op.Fork (task c)) (with_start c (record { body = body; first = n + 1; names = s.names }) s)

-- task t comes to statement n; a loop and its turns do nothing of their own
abbrev pub come_to : ℕ → ℕ → Coming → UnfoldingState → Outcome UnfoldingState
come_to t n (a_plain s) = act t n s
come_to t n (a_fork x body) = act_fork t n x body
come_to t n a_loop = λ s. Ok s
come_to t n a_turn = λ s. Ok s

-- the test of the number of visits, and one more
unfoldable pub count_visit : ℕ → UnfoldingState → Outcome UnfoldingState
count_visit n s = do
  room ← fault_unless (nat_lt s.visits max_visits) too_many_visits n
  Ok (record s { visits = s.visits + 1 })

-- a visit of task t
abbrev pub make_visit : ℕ → Visit → UnfoldingState → Outcome UnfoldingState
make_visit t m s = count_visit m.statement s >>= come_to t m.statement m.coming

-- visits one after the other, up to the first fault
unfoldable pub make_visits : ℕ → List Visit → UnfoldingState → Outcome UnfoldingState
make_visits t [] s = Ok s
make_visits t (m ∷ ms) s = make_visit t m s >>= make_visits t ms

-- ---- tasks

-- with these names
abbrev pub with_names : Names → UnfoldingState → UnfoldingState
with_names names s = record s { names = names }

-- task t leaves phaser p at its end, if it is a member; n is the statement of its fork, or 0
unfoldable pub leave : ℕ → ℕ → ℕ → UnfoldingState → Outcome UnfoldingState
leave t n p s = if s.members t p then add_op t n (op.Drop (phaser p)) (with_members (with_member t p false s.members) s) else Ok s

-- the same of each phaser with a number below p, in order
unfoldable pub leave_below : ℕ → ℕ → ℕ → UnfoldingState → Outcome UnfoldingState
leave_below t n zero s = Ok s
leave_below t n (suc p) s = leave_below t n p s >>= leave t n p

-- how a task ends: in PL 2 it leaves its phasers
abbrev pub ended : Bool → ℕ → ℕ → Outcome UnfoldingState → Outcome UnfoldingState
ended false t n outcome = outcome
ended true t n outcome = outcome >>= leave_below t n max_phasers

-- the visits of task t, which begins with the names of its start, and its end; one that no fork names has neither
abbrev pub unfold_task : Bool → ℕ → Option Start → UnfoldingState → Outcome UnfoldingState
unfold_task two t None s = Ok s
unfold_task two t (Some start) s = ended two t (start.first - 1) (make_visits t (visits_of start.first start.body) (with_names start.names s))

-- the tasks from number t on, in order, of which there are at most n
unfoldable pub unfold_tasks : Bool → ℕ → ℕ → UnfoldingState → Outcome UnfoldingState
unfold_tasks two zero t s = Ok s
unfold_tasks two (suc n) t s = unfold_task two t (slice_index_or s.starts t None) s >>= unfold_tasks two n (t + 1)

-- before the first visit: task 0 alone, with the whole program
abbrev pub opening_state : Tree → UnfoldingState
opening_state p = record {
  plan = record { parents = None ∷ []; makers = []; codes = [] ∷ []; pieces = [] };
  starts = Some (record { body = p; first = 1; names = λ _. None }) ∷ [];
  members = λ _ _. false;
  names = λ _. None;
  visits = 0;
}

-- ---- plans

-- the pieces of a task's code, by its start; one that was not forked has none
abbrev pub code_pieces : Option Start → List Op → List Piece
code_pieces None ops = []
code_pieces (Some start) ops = body_pieces start.body ops

-- the pieces of task t's code
abbrev pub pieces_at : UnfoldingState → ℕ → List Piece
pieces_at s t = code_pieces (slice_index_or s.starts t None) (slice_index_or s.plan.codes t [])

-- the plan of a state, with the pieces of its codes
abbrev pub with_pieces : UnfoldingState → Plan
with_pieces s = record s.plan { pieces = list_below (pieces_at s) (length s.plan.codes) }

-- the plan of a program, or its first fault
unfoldable pub plan_of : Program → Outcome Plan
plan_of p = unfold_tasks p.two max_tasks 0 (opening_state p.body) >>= λ s. Ok (with_pieces s)
