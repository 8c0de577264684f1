-- The table of tests: which faults a coming to a statement may have, in the order in which they are tried.
use Rattle.std.specs.Prelude.{◌≡◌, ℕ, ◌+◌, ◌*◌, Bool, true, false, not, ◌&&◌, ◌||◌, is_none, is_some, List, [], ◌∷◌, ◌++◌, length, slice_index_or, sum_by, Option, Some, None, nat_le, nat_lt, Contains}
use Rattle.pl_syntax.specs.Tree.{new_task, new_phaser, reg, dereg, adv, await}
use Rattle.pl_plan.specs.Unfolding.{Coming, a_plain, a_fork, UnfoldingState, Thing, a_task, a_phaser, is_parent}

-- ---- which statements a row of the table concerns

-- fork, reg
abbrev pub of_child : Coming → Bool
of_child (a_fork x body) = true
of_child (a_plain (reg x y)) = true
of_child c = false

-- reg
abbrev pub of_reg : Coming → Bool
of_reg (a_plain (reg x y)) = true
of_reg c = false

-- dereg, adv, await
abbrev pub of_member : Coming → Bool
of_member (a_plain (dereg x)) = true
of_member (a_plain (adv x)) = true
of_member (a_plain (await x off)) = true
of_member c = false

-- newTid
abbrev pub of_new_task : Coming → Bool
of_new_task (a_plain (new_task x)) = true
of_new_task c = false

-- newPhaser
abbrev pub of_new_phaser : Coming → Bool
of_new_phaser (a_plain (new_phaser x)) = true
of_new_phaser c = false

-- ---- what the names of a statement stand for

-- x, its first name
abbrev pub first_name : Coming → List ℕ
first_name (a_fork x body) = x
first_name (a_plain (reg x y)) = x
first_name (a_plain (dereg x)) = x
first_name (a_plain (adv x)) = x
first_name (a_plain (await x off)) = x
first_name c = []

-- y, its second name
abbrev pub second_name : Coming → List ℕ
second_name (a_plain (reg x y)) = y
second_name c = []

-- what x stands for
abbrev pub first_thing : UnfoldingState → Coming → Option Thing
first_thing s c = s.names (first_name c)

-- what y stands for
abbrev pub second_thing : UnfoldingState → Coming → Option Thing
second_thing s c = s.names (second_name c)

-- it is a task
abbrev pub is_task : Option Thing → Bool
is_task (Some (a_task c)) = true
is_task o = false

-- it is a phaser
abbrev pub is_phaser : Option Thing → Bool
is_phaser (Some (a_phaser p)) = true
is_phaser o = false

-- the number of a task, and 0 of what is none
abbrev pub task_number : Option Thing → ℕ
task_number (Some (a_task c)) = c
task_number o = 0

-- the number of a phaser, and 0 of what is none
abbrev pub phaser_number : Option Thing → ℕ
phaser_number (Some (a_phaser p)) = p
phaser_number o = 0

-- the phaser of which the current task has to be a member: y of a reg, x of the others
abbrev pub phaser_wanted : UnfoldingState → Coming → ℕ
phaser_wanted s (a_plain (reg x y)) = phaser_number (s.names y)
phaser_wanted s c = phaser_number (first_thing s c)

-- task t is the one that drew task c
abbrev pub drew : UnfoldingState → ℕ → ℕ → Bool
drew s t c = is_parent t (slice_index_or s.plan.parents c None)

-- task c is forked
abbrev pub is_forked : UnfoldingState → ℕ → Bool
is_forked s c = is_some (slice_index_or s.starts c None)

-- how many cells there are with the new task or phaser: one for each task, and one for each task and phaser
abbrev pub cells_with : UnfoldingState → Coming → ℕ
cells_with s (a_plain (new_task x)) = (length s.plan.parents + 1) * (length s.plan.makers + 1)
cells_with s (a_plain (new_phaser x)) = length s.plan.parents * (length s.plan.makers + 1 + 1)
cells_with s c = 0

-- ---- the table

-- a row of the table: the kind of the fault, and whether it is one for task t that comes to this in the state before
pub record Row : Type 0 where
  pub kind : ℕ
  pub fails : UnfoldingState → ℕ → Coming → Bool

abbrev row : ℕ → (UnfoldingState → ℕ → Coming → Bool) → Row
row kind fails = record { kind = kind; fails = fails }

-- The rows, in the order in which they are tried. Behind the statements that a row concerns stands what is wrong.
abbrev pub table : List Row
table =
    -- all, and turns: this visit is number 4,194,305
    row 10 (λ s t c. not (nat_lt s.visits 4194304))
    -- fork, reg, dereg, adv, await: the name x is unknown
    ∷ row 1 (λ s t c. (of_child c || of_member c) && is_none (first_thing s c))
    -- x names the other kind of thing: a task is wanted by fork and reg, a phaser by dereg, adv and await
    ∷ row 2 (λ s t c. (of_child c && is_phaser (first_thing s c)) || (of_member c && is_task (first_thing s c)))
    -- reg: the name y is unknown
    ∷ row 1 (λ s t c. of_reg c && is_none (second_thing s c))
    -- reg: y names a task
    ∷ row 2 (λ s t c. of_reg c && is_task (second_thing s c))
    -- fork, reg: the current task did not draw x
    ∷ row 5 (λ s t c. of_child c && not (drew s t (task_number (first_thing s c))))
    -- fork, reg: x is already forked
    ∷ row 6 (λ s t c. of_child c && is_forked s (task_number (first_thing s c)))
    -- reg, dereg, adv, await: the current task is not a member
    ∷ row 3 (λ s t c. (of_reg c || of_member c) && not (s.members t (phaser_wanted s c)))
    -- reg: x is already a member of y
    ∷ row 4 (λ s t c. of_reg c && s.members (task_number (first_thing s c)) (phaser_wanted s c))
    -- newTid: 4,096 tasks are there
    ∷ row 7 (λ s t c. of_new_task c && not (nat_lt (length s.plan.parents) 4096))
    -- newPhaser: 1,024 phasers are there
    ∷ row 8 (λ s t c. of_new_phaser c && not (nat_lt (length s.plan.makers) 1024))
    -- newTid, newPhaser: the cells, with the new task or phaser counted, are more than 1,048,576
    ∷ row 11 (λ s t c. (of_new_task c || of_new_phaser c) && not (nat_le (cells_with s c) 1048576))
    -- newPhaser, fork, reg, dereg, adv, await: 1,048,576 ops are there
    ∷ row 9 (λ s t c. (of_new_phaser c || (of_child c || of_member c)) && not (nat_lt (sum_by length s.plan.codes) 1048576))
    ∷ []

-- no row is at fault
abbrev pub Passes : UnfoldingState → ℕ → Coming → Type 0
Passes s t c = (r : Row) → Contains table r → r.fails s t c ≡ false

-- the first row at fault is of this kind
pub record IsFirstFailing (s : UnfoldingState) (t : ℕ) (c : Coming) (kind : ℕ) : Type 0 where
  pub before : List Row
  pub failing : Row
  pub after : List Row
  pub of_table : table ≡ before ++ (failing ∷ after)
  pub passed : (r : Row) → Contains before r → r.fails s t c ≡ false
  pub fails : failing.fails s t c ≡ true
  pub kind_is : failing.kind ≡ kind
