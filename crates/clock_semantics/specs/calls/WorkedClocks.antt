-- Small clock programs with the plans to which they unfold, and with their first faults; and states at a limit.
use Rattle.std.specs.Prelude.{◌≡◌, ℕ, ◌+◌, ◌*◌, ◌<◌, codes, List, [], ◌∷◌, length, map, Ok, Err, Some, None, Option}
use Rattle.armus_base.specs.declared.ids.TaskId.{TaskId}
use Rattle.armus_base.specs.declared.offset.Offset.TheVariants.{Here}
use Rattle.armus_base.specs.declared.op.Op.{Op}
use Rattle.armus_base.specs.declared.op.Op.TheVariants as op
use Rattle.armus_base.specs.Numbers.{phaser, task}
use Rattle.armus_base.specs.Plans.{Plan, straight_plan}
use Rattle.clock_syntax.specs.Trees.{ClockTree, clock, advance, resume, drop, skip, done, plain, async, finish, loop}
use Rattle.clock_semantics.specs.Moves.{Move, opens, starts, advances, resumes, drops, begins, ends, stops}
use Rattle.clock_semantics.specs.Unfolding.{ClockUnfolding, a_close, act_async, act_finish, act_plain, clock_plan_of, clock_unfolded, come, coming, count_clock_visit, move_at}
use Rattle.pl_plan.specs.Unfolding.{Outcome, ◌>>=◌, fault}

-- a clock program and the answer of its unfolding
pub record ClockExample : Type 0 where
  pub program : ClockTree
  pub answer : Outcome Plan

-- a clock program and the moves of its activities
pub record MovesExample : Type 0 where
  pub program : ClockTree
  pub moves : List (List Move)

-- ---- programs, written backwards from what follows a statement

abbrev a : List ℕ
a = codes "a"

abbrev b : List ℕ
b = codes "b"

abbrev c : List ℕ
c = codes "c"

abbrev d : List ℕ
d = codes "d"

abbrev x : List ℕ
x = codes "x"

-- the ops of a code
abbrev make_op : ℕ → Op
make_op p = op.Make (phaser p)

abbrev reg_op : ℕ → ℕ → Op
reg_op u p = op.Reg (task u) (phaser p)

abbrev fork_op : ℕ → Op
fork_op u = op.Fork (task u)

abbrev adv_op : ℕ → Op
adv_op p = op.Adv (phaser p)

abbrev await_op : ℕ → Op
await_op p = op.Await (phaser p) Here

abbrev drop_op : ℕ → Op
drop_op p = op.Drop (phaser p)

-- activity 0, and activities that these ones start
abbrev parents_started_by : List ℕ → List (Option TaskId)
parents_started_by us = None ∷ map (λ u. Some (task u)) us

-- this program has the plan with these parts: who started each activity but the first, who made each clock and finish, and the codes
abbrev clock_plans : ClockTree → List ℕ → List ℕ → List (List Op) → ClockExample
clock_plans program starters makers ops =
    record { program = program; answer = Ok (straight_plan (parents_started_by starters) (map task makers) ops) }

-- clock c; finish { async(c) { advance(c); } } drop(c);
abbrev deadlocked : ClockTree
deadlocked = plain (clock c) (finish (async (c ∷ []) (plain (advance c) done) done) (plain (drop c) done))

-- clock c; finish { async(c) { advance(c); } drop(c); }
abbrev dropped_in_time : ClockTree
dropped_in_time = plain (clock c) (finish (async (c ∷ []) (plain (advance c) done) (plain (drop c) done)) done)

-- clock c; resume(c); advance(c);
abbrev resumed : ClockTree
resumed = plain (clock c) (plain (resume c) (plain (advance c) done))

-- finish { async() { async() { } } }
abbrev grandchild : ClockTree
grandchild = finish (async [] (async [] done done) done) done

-- clock b; clock a; async(a, b) { }
abbrev in_order_of_names : ClockTree
in_order_of_names = plain (clock b) (plain (clock a) (async (a ∷ b ∷ []) done done))

-- clock c; finish { finish { async() { } } async(c) { } } async() { skip; }
abbrev nested_finishes : ClockTree
nested_finishes =
    plain (clock c) (finish (finish (async [] done done) (async (c ∷ []) done done)) (async [] (plain skip done) done))

-- clock c; loop 2 { resume(c); advance(c); clock c; advance(c); } loop 0 { drop(d); }
abbrev rebound : ClockTree
rebound =
    plain (clock c) (loop 2 (plain (resume c) (plain (advance c) (plain (clock c) (plain (advance c) done)))) (loop 0 (plain (drop d) done) done))

-- clock c; loop 2 { resume(c); advance(c); }
abbrev resumed_again : ClockTree
resumed_again = plain (clock c) (loop 2 (plain (resume c) (plain (advance c) done)) done)

-- clock c; async(c) { resume(c); } resume(c);
abbrev pending_apart : ClockTree
pending_apart = plain (clock c) (async (c ∷ []) (plain (resume c) done) (plain (resume c) done))

-- some programs with their plans
abbrev pub worked_clock_plans : List ClockExample
worked_clock_plans =
    clock_plans deadlocked (0 ∷ []) (0 ∷ 0 ∷ [])
    ((make_op 0 ∷ make_op 1 ∷ reg_op 1 0 ∷ reg_op 1 1 ∷ fork_op 1 ∷ adv_op 1 ∷ await_op 1 ∷ drop_op 1 ∷ drop_op 0 ∷ [])
    ∷ (adv_op 0 ∷ await_op 0 ∷ drop_op 0 ∷ drop_op 1 ∷ []) ∷ [])
    ∷ clock_plans dropped_in_time (0 ∷ []) (0 ∷ 0 ∷ [])
    ((make_op 0 ∷ make_op 1 ∷ reg_op 1 0 ∷ reg_op 1 1 ∷ fork_op 1 ∷ drop_op 0 ∷ adv_op 1 ∷ await_op 1 ∷ drop_op 1 ∷ [])
    ∷ (adv_op 0 ∷ await_op 0 ∷ drop_op 0 ∷ drop_op 1 ∷ []) ∷ [])
    ∷ clock_plans resumed [] (0 ∷ []) ((make_op 0 ∷ adv_op 0 ∷ await_op 0 ∷ drop_op 0 ∷ []) ∷ [])
    ∷ clock_plans grandchild (0 ∷ 1 ∷ []) (0 ∷ [])
    ((make_op 0 ∷ reg_op 1 0 ∷ fork_op 1 ∷ adv_op 0 ∷ await_op 0 ∷ drop_op 0 ∷ []) ∷ (reg_op 2 0 ∷ fork_op 2 ∷ drop_op 0 ∷ []) ∷ (drop_op 0 ∷ []) ∷ [])
    ∷ clock_plans in_order_of_names (0 ∷ []) (0 ∷ 0 ∷ [])
    ((make_op 0 ∷ make_op 1 ∷ reg_op 1 1 ∷ reg_op 1 0 ∷ fork_op 1 ∷ drop_op 0 ∷ drop_op 1 ∷ []) ∷ (drop_op 0 ∷ drop_op 1 ∷ []) ∷ [])
    ∷ clock_plans nested_finishes (0 ∷ 0 ∷ 0 ∷ []) (0 ∷ 0 ∷ 0 ∷ [])
    ((make_op 0 ∷ make_op 1 ∷ make_op 2 ∷ reg_op 1 2 ∷ fork_op 1 ∷ adv_op 2 ∷ await_op 2 ∷ drop_op 2
    ∷ reg_op 2 0 ∷ reg_op 2 1 ∷ fork_op 2 ∷ adv_op 1 ∷ await_op 1 ∷ drop_op 1 ∷ fork_op 3 ∷ drop_op 0 ∷ [])
    ∷ (drop_op 2 ∷ []) ∷ (drop_op 0 ∷ drop_op 1 ∷ []) ∷ [] ∷ [])
    ∷ clock_plans rebound [] (0 ∷ 0 ∷ 0 ∷ [])
    ((make_op 0 ∷ adv_op 0 ∷ await_op 0 ∷ make_op 1 ∷ adv_op 1 ∷ await_op 1 ∷ adv_op 1 ∷ await_op 1
    ∷ make_op 2 ∷ adv_op 2 ∷ await_op 2 ∷ drop_op 0 ∷ drop_op 1 ∷ drop_op 2 ∷ []) ∷ [])
    ∷ clock_plans resumed_again [] (0 ∷ []) ((make_op 0 ∷ adv_op 0 ∷ await_op 0 ∷ adv_op 0 ∷ await_op 0 ∷ drop_op 0 ∷ []) ∷ [])
    ∷ clock_plans pending_apart (0 ∷ []) (0 ∷ [])
    ((make_op 0 ∷ reg_op 1 0 ∷ fork_op 1 ∷ adv_op 0 ∷ drop_op 0 ∷ []) ∷ (adv_op 0 ∷ drop_op 0 ∷ []) ∷ [])
    ∷ []

-- some programs with their moves
abbrev pub worked_moves : List MovesExample
worked_moves =
    record {
      program = deadlocked;
      moves =
          (opens 0 ∷ begins 1 ∷ starts 1 (0 ∷ []) (Some 1) ∷ ends 1 ∷ drops 0 ∷ stops [] ∷ []) ∷ (advances 0 ∷ stops (0 ∷ 1 ∷ []) ∷ []) ∷ [];
    }
    ∷ record { program = resumed; moves = (opens 0 ∷ resumes 0 ∷ advances 0 ∷ stops (0 ∷ []) ∷ []) ∷ [] }
    ∷ record {
      program = grandchild;
      moves = (begins 0 ∷ starts 1 [] (Some 0) ∷ ends 0 ∷ stops [] ∷ []) ∷ (starts 2 [] (Some 0) ∷ stops (0 ∷ []) ∷ []) ∷ (stops (0 ∷ []) ∷ []) ∷ [];
    }
    ∷ []

-- this program's first fault is of this kind at this statement
abbrev clock_faults : ClockTree → ℕ → ℕ → ClockExample
clock_faults program kind statement = record { program = program; answer = Err (fault kind statement) }

-- some programs with their first faults, which tell the orders of the tests
abbrev pub worked_clock_faults : List ClockExample
worked_clock_faults =
    -- skip; advance(x);
    clock_faults (plain skip (plain (advance x) done)) 1 2
    -- loop 3 { skip; loop 0 { skip; skip; } skip; } drop(x);
    ∷ clock_faults (loop 3 (plain skip (loop 0 (plain skip (plain skip done)) (plain skip done))) (plain (drop x) done)) 1 7
    -- clock c; drop(c); resume(c);
    ∷ clock_faults (plain (clock c) (plain (drop c) (plain (resume c) done))) 2 3
    -- clock c; drop(c); async(c) { }
    ∷ clock_faults (plain (clock c) (plain (drop c) (async (c ∷ []) done done))) 2 3
    -- clock c; drop(c); async(c, c) { }
    ∷ clock_faults (plain (clock c) (plain (drop c) (async (c ∷ c ∷ []) done done))) 2 3
    -- clock c; async() { advance(c); }
    ∷ clock_faults (plain (clock c) (async [] (plain (advance c) done) done)) 2 3
    -- clock c; async(c, c) { }
    ∷ clock_faults (plain (clock c) (async (c ∷ c ∷ []) done done)) 3 2
    -- async(c, c) { }
    ∷ clock_faults (async (c ∷ c ∷ []) done done) 1 1
    -- clock c; resume(c); resume(c);
    ∷ clock_faults (plain (clock c) (plain (resume c) (plain (resume c) done))) 4 3
    -- clock c; resume(c); async(c, c) { }
    ∷ clock_faults (plain (clock c) (plain (resume c) (async (c ∷ c ∷ []) done done))) 4 3
    -- clock c; async(x, c) { }
    ∷ clock_faults (plain (clock c) (async (x ∷ c ∷ []) done done)) 1 2
    -- clock c; resume(c); async(c, x) { }
    ∷ clock_faults (plain (clock c) (plain (resume c) (async (c ∷ x ∷ []) done done))) 4 3
    -- clock d; resume(d); clock c; async(d, c, c) { }
    ∷ clock_faults (plain (clock d) (plain (resume d) (plain (clock c) (async (d ∷ c ∷ c ∷ []) done done)))) 4 4
    -- clock c; async(c) { resume(c); finish { resume(c); } } drop(c); loop 2 { drop(x); }
    ∷ clock_faults (plain (clock c) (async (c ∷ []) (plain (resume c) (finish (plain (resume c) done) done)) (plain (drop c) (loop 2 (plain (drop x) done) done)))) 1 8
    -- clock c; async(c) { resume(c); finish { resume(c); } } drop(c);
    ∷ clock_faults (plain (clock c) (async (c ∷ []) (plain (resume c) (finish (plain (resume c) done) done)) (plain (drop c) done))) 4 5
    -- finish { clock c; async(c) { clock d; } } advance(c); advance(d);
    ∷ clock_faults (finish (plain (clock c) (async (c ∷ []) (plain (clock d) done) done)) (plain (advance c) (plain (advance d) done))) 1 6
    ∷ []

-- ---- laws

-- each of these has its answer
abbrev pub ArePlanned : List ClockExample → Type 0
ArePlanned [] = Unit {0}
ArePlanned (e ∷ es) = clock_plan_of e.program ≡ e.answer × ArePlanned es

-- each of these has its moves
abbrev pub HaveMoves : List MovesExample → Type 0
HaveMoves [] = Unit {0}
HaveMoves (e ∷ es) = (clock_unfolded e.program >>= λ s. Ok s.moves) ≡ Ok e.moves × HaveMoves es

-- at the limit of activities none is started
abbrev pub NoActivityMore : Type 0
NoActivityMore = (t n : ℕ) (body : ClockTree) (s : ClockUnfolding) → length s.parents ≡ 4096 → act_async t n [] body s ≡ Err (fault 5 n)

-- at that of clocks and finishes none is made
abbrev pub NoClockMore : Type 0
NoClockMore = (t n : ℕ) (y : List ℕ) (s : ClockUnfolding) → length s.makers ≡ 1024 → act_plain t n (clock y) s ≡ Err (fault 6 n)

-- nor a finish
abbrev pub NoFinishMore : Type 0
NoFinishMore = (t n : ℕ) (s : ClockUnfolding) → length s.makers ≡ 1024 → act_finish t n s ≡ Err (fault 6 n)

-- where the cells with one activity more are too many, none is started
abbrev pub NoActivityWithoutCells : Type 0
NoActivityWithoutCells =
    (t n : ℕ) (body : ClockTree) (s : ClockUnfolding) → length s.parents < 4096 →
    1048576 < (length s.parents + 1) * (length s.makers + 1) → act_async t n [] body s ≡ Err (fault 7 n)

-- where those with one clock or finish more are, none is made
abbrev pub NoClockWithoutCells : Type 0
NoClockWithoutCells =
    (t n : ℕ) (y : List ℕ) (s : ClockUnfolding) → length s.makers < 1024 →
    1048576 < length s.parents * (length s.makers + 1 + 1) → act_plain t n (clock y) s ≡ Err (fault 7 n)

-- nor a finish
abbrev pub NoFinishWithoutCells : Type 0
NoFinishWithoutCells =
    (t n : ℕ) (s : ClockUnfolding) → length s.makers < 1024 → 1048576 < length s.parents * (length s.makers + 1 + 1) → act_finish t n s ≡ Err (fault 7 n)

-- at the limit of ops there is no op more
abbrev pub NoClockOpMore : Type 0
NoClockOpMore = (t n p : ℕ) (s : ClockUnfolding) → s.ops ≡ 1048576 → move_at t n (resumes p) s ≡ Err (fault 8 n)

-- two ops below it no finish ends, which has three
abbrev pub NoEndMore : Type 0
NoEndMore = (t n f : ℕ) (s : ClockUnfolding) → s.ops ≡ 1048574 → move_at t n (ends f) s ≡ Err (fault 8 n)

-- at that of visits no visit
abbrev pub NoClockVisitMore : Type 0
NoClockVisitMore = (n : ℕ) (s : ClockUnfolding) → s.visits ≡ 4194304 → count_clock_visit n s ≡ Err (fault 9 n)

-- the end of a finish is none, and goes on
abbrev pub NoVisitAtAnEnd : Type 0
NoVisitAtAnEnd = (t n : ℕ) (s : ClockUnfolding) → s.visits ≡ 4194304 → s.now.governing ≡ [] → come t (coming n a_close) s ≡ Ok s

-- the limits of the unfolding
pub record ClockLimitsHold : Type 0 where
  pub activities : NoActivityMore
  pub clocks : NoClockMore × NoFinishMore
  pub activity_cells : NoActivityWithoutCells
  pub clock_cells : NoClockWithoutCells × NoFinishWithoutCells
  pub ops : NoClockOpMore × NoEndMore
  pub visits : NoClockVisitMore × NoVisitAtAnEnd
