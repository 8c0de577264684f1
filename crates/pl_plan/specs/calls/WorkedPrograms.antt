-- Small programs with the plans to which they unfold, and with their first faults; and states at a limit.
use Rattle.std.specs.Prelude.{◌≡◌, ℕ, ◌+◌, ◌*◌, ◌<◌, codes, true, false, List, [], ◌∷◌, length, Ok, Err, Some, None, sum_by}
use Rattle.armus_base.specs.declared.offset.Offset.TheVariants.{Ahead, Back, Here}
use Rattle.pl_syntax.specs.declared.tree.Program.{Program}
use Rattle.pl_syntax.specs.Tree.{Tree, done, plain, fork, loop, new_task, new_phaser, reg, dereg, adv, await, skip}
use Rattle.armus_base.specs.declared.op.Op.TheVariants as op
use Rattle.armus_base.specs.Numbers.{phaser, task}
use Rattle.armus_base.specs.Plans.{Plan, straight_plan}
use Rattle.armus_base.specs.declared.op.Op.{Op}
use Rattle.pl_plan.specs.Unfolding.{Outcome, UnfoldingState, act, add_op, count_visit, fault, plan_of}

-- a program and what its unfolding answers
pub record Example : Type 0 where
  pub program : Program
  pub answer : Outcome Plan

-- ---- programs, written backwards from what follows a statement

abbrev p : List ℕ
p = codes "p"

abbrev q : List ℕ
q = codes "q"

abbrev s : List ℕ
s = codes "s"

abbrev t : List ℕ
t = codes "t"

-- this program has the plan with these parts
abbrev unfolds : Tree → Plan → Example
unfolds body plan = record { program = record { two = false; body = body }; answer = Ok plan }

-- this program's first fault is of this kind at this statement
abbrev faults : Tree → ℕ → ℕ → Example
faults body kind statement =
    record { program = record { two = false; body = body }; answer = Err (record { kind = kind; statement = statement }) }

-- each turn draws a task, with the names that the turn before left:
-- p = newPhaser(); loop 2 { t = newTid(); reg(t, p); fork(t) { adv(p); } } await(p);
abbrev turns : Example
turns =
    unfolds
    (plain (new_phaser p) (loop 2 (plain (new_task t) (plain (reg t p) (fork t (plain (adv p) done) done))) (plain (await p Here) done)))
    (straight_plan (None ∷ Some (task 0) ∷ Some (task 0) ∷ []) (task 0 ∷ [])
    ((op.Make (phaser 0) ∷ op.Reg (task 1) (phaser 0) ∷ op.Fork (task 1) ∷ op.Reg (task 2) (phaser 0) ∷ op.Fork (task 2) ∷ op.Await (phaser 0) Here ∷ [])
    ∷ (op.Adv (phaser 0) ∷ []) ∷ (op.Adv (phaser 0) ∷ []) ∷ []))

-- a child has the names as they were at its fork:
-- p = newPhaser(); t = newTid(); reg(t, p); fork(t) { adv(p); } p = newTid();
abbrev names_at_the_fork : Example
names_at_the_fork =
    unfolds
    (plain (new_phaser p) (plain (new_task t) (plain (reg t p) (fork t (plain (adv p) done) (plain (new_task p) done)))))
    (straight_plan (None ∷ Some (task 0) ∷ Some (task 0) ∷ []) (task 0 ∷ [])
    ((op.Make (phaser 0) ∷ op.Reg (task 1) (phaser 0) ∷ op.Fork (task 1) ∷ []) ∷ (op.Adv (phaser 0) ∷ []) ∷ [] ∷ []))

-- a task that no fork names has no code, and a body that is never unfolded is not checked:
-- t = newTid(); loop 0 { adv(q); }
abbrev never_unfolded : Example
never_unfolded =
    unfolds
    (plain (new_task t) (loop 0 (plain (adv q) done) done))
    (straight_plan (None ∷ Some (task 0) ∷ []) [] ([] ∷ [] ∷ []))

-- in PL 2 a task that ends leaves its phasers in order of number, and one that is never forked has no code:
-- pl 2; q = newPhaser(); p = newPhaser(); t = newTid(); reg(t, p); s = newTid(); reg(s, p); fork(t) { await(p - 1); } await(q + 2);
abbrev leaving : Example
leaving =
    record {
      program =
          record {
            two = true;
            body =
                plain (new_phaser q) (plain (new_phaser p) (plain (new_task t) (plain (reg t p) (plain (new_task s) (plain (reg s p)
                (fork t (plain (await p (Back 1)) done) (plain (await q (Ahead 2)) done)))))));
          };
      answer =
          Ok (straight_plan (None ∷ Some (task 0) ∷ Some (task 0) ∷ []) (task 0 ∷ task 0 ∷ [])
          ((op.Make (phaser 0) ∷ op.Make (phaser 1) ∷ op.Reg (task 1) (phaser 1) ∷ op.Reg (task 2) (phaser 1) ∷ op.Fork (task 1)
          ∷ op.Await (phaser 0) (Ahead 2) ∷ op.Drop (phaser 0) ∷ op.Drop (phaser 1) ∷ [])
          ∷ (op.Await (phaser 1) (Back 1) ∷ op.Drop (phaser 1) ∷ []) ∷ [] ∷ []));
    }

-- some programs with their plans
abbrev pub worked_plans : List Example
worked_plans = turns ∷ names_at_the_fork ∷ never_unfolded ∷ leaving ∷ []

-- some programs with their first faults, which tell the orders of the tests
abbrev pub worked_faults : List Example
worked_faults =
    -- adv(q);
    faults (plain (adv q) done) 1 1
    -- loop 3 { skip; loop 0 { skip; skip; } skip; } adv(q);
    ∷ faults (loop 3 (plain skip (loop 0 (plain skip (plain skip done)) (plain skip done))) (plain (adv q) done)) 1 7
    -- p = newPhaser(); reg(p, q);
    ∷ faults (plain (new_phaser p) (plain (reg p q) done)) 2 2
    -- t = newTid(); fork(t) { reg(t, q); }
    ∷ faults (plain (new_task t) (fork t (plain (reg t q) done) done)) 1 3
    -- s = newTid(); t = newTid(); fork(t) { reg(t, s); }
    ∷ faults (plain (new_task s) (plain (new_task t) (fork t (plain (reg t s) done) done))) 2 4
    -- t = newTid(); fork(t) { } reg(t, q);
    ∷ faults (plain (new_task t) (fork t done (plain (reg t q) done))) 1 3
    -- p = newPhaser(); t = newTid(); s = newTid(); fork(t) { reg(s, p); }
    ∷ faults (plain (new_phaser p) (plain (new_task t) (plain (new_task s) (fork t (plain (reg s p) done) done)))) 5 5
    -- p = newPhaser(); t = newTid(); fork(t) { reg(t, p); }
    ∷ faults (plain (new_phaser p) (plain (new_task t) (fork t (plain (reg t p) done) done))) 5 4
    -- s = newTid(); t = newTid(); fork(s) { } fork(t) { fork(s) { } }
    ∷ faults (plain (new_task s) (plain (new_task t) (fork s done (fork t (fork s done done) done)))) 5 5
    -- p = newPhaser(); t = newTid(); dereg(p); fork(t) { } reg(t, p);
    ∷ faults (plain (new_phaser p) (plain (new_task t) (plain (dereg p) (fork t done (plain (reg t p) done))))) 6 5
    -- p = newPhaser(); dereg(p); adv(p);
    ∷ faults (plain (new_phaser p) (plain (dereg p) (plain (adv p) done))) 3 3
    -- p = newPhaser(); t = newTid(); reg(t, p); dereg(p); reg(t, p);
    ∷ faults (plain (new_phaser p) (plain (new_task t) (plain (reg t p) (plain (dereg p) (plain (reg t p) done))))) 3 5
    -- p = newPhaser(); t = newTid(); loop 2 { reg(t, p); }
    ∷ faults (plain (new_phaser p) (plain (new_task t) (loop 2 (plain (reg t p) done) done))) 4 4
    -- t = newTid(); fork(t) { adv(q); } adv(t);
    ∷ faults (plain (new_task t) (fork t (plain (adv q) done) (plain (adv t) done))) 2 4
    ∷ []

-- each example's program unfolds to its answer
abbrev pub AreWorked : List Example → Type 0
AreWorked [] = Unit {0}
AreWorked (e ∷ examples) = (plan_of e.program ≡ e.answer) × AreWorked examples

-- ---- states at a limit, in which one step more is a fault

-- at the limit of tasks no task is drawn
abbrev pub NoTaskMore : Type 0
NoTaskMore = (t n : ℕ) (x : List ℕ) (s : UnfoldingState) → length s.plan.parents ≡ 4096 → act t n (new_task x) s ≡ Err (fault 7 n)

-- at that of phasers none is made
abbrev pub NoPhaserMore : Type 0
NoPhaserMore = (t n : ℕ) (x : List ℕ) (s : UnfoldingState) → length s.plan.makers ≡ 1024 → act t n (new_phaser x) s ≡ Err (fault 8 n)

-- where the cells with one task more are too many, none is drawn
abbrev pub NoTaskWithoutCells : Type 0
NoTaskWithoutCells =
    (t n : ℕ) (x : List ℕ) (s : UnfoldingState) → length s.plan.parents < 4096 →
    1048576 < (length s.plan.parents + 1) * (length s.plan.makers + 1) → act t n (new_task x) s ≡ Err (fault 11 n)

-- where those with one phaser more are, none is made
abbrev pub NoPhaserWithoutCells : Type 0
NoPhaserWithoutCells =
    (t n : ℕ) (x : List ℕ) (s : UnfoldingState) → length s.plan.makers < 1024 →
    1048576 < length s.plan.parents * (length s.plan.makers + 1 + 1) → act t n (new_phaser x) s ≡ Err (fault 11 n)

-- at the limit of ops there is no op more
abbrev pub NoOpMore : Type 0
NoOpMore = (t n : ℕ) (o : Op) (s : UnfoldingState) → sum_by length s.plan.codes ≡ 1048576 → add_op t n o s ≡ Err (fault 9 n)

-- at that of visits no visit
abbrev pub NoVisitMore : Type 0
NoVisitMore = (n : ℕ) (s : UnfoldingState) → s.visits ≡ 4194304 → count_visit n s ≡ Err (fault 10 n)

-- the limits of the unfolding
pub record LimitsHold : Type 0 where
  pub tasks : NoTaskMore
  pub phasers : NoPhaserMore
  pub task_cells : NoTaskWithoutCells
  pub phaser_cells : NoPhaserWithoutCells
  pub ops : NoOpMore
  pub visits : NoVisitMore
