-- What the checker does at a step, as functions on what it keeps. The unfolding does not name them: laws in proofs/ tie the two.
use Rattle.std.specs.Prelude.{◌≡◌, ℕ, ◌+◌, ◌<◌, Bool, true, false, not, [], length, slice_index_or, Option, Some, None, Result, Ok, Err, nat_lt, is_some, if◌then◌else◌, zero, suc}
use Rattle.pl_plan.specs.Limits.{max_visits}
use Rattle.armus_base.specs.Limits.{max_tasks, max_phasers, max_ops}
use Rattle.armus_base.specs.declared.offset.Offset.{Offset}
use Rattle.armus_base.specs.declared.op.Op.{Op}
use Rattle.armus_base.specs.declared.op.Op.TheVariants as op
use Rattle.pl_plan.specs.declared.step.FlatStep.{FlatStep}
use Rattle.pl_plan.specs.declared.step.FlatStep.TheVariants as a_step
use Rattle.pl_plan.specs.declared.step.Thing as code
use Rattle.pl_plan.specs.declared.step.Thing.TheVariants as a_thing
use Rattle.pl_plan.specs.declared.fault.PlanEnd.{PlanEnd}
use Rattle.pl_plan.specs.declared.fault.PlanEnd.TheVariants as ends
use Rattle.pl_plan.specs.declared.fault.CheckFault.{CheckFault}
use Rattle.pl_plan.specs.inside.Checker.{Checker, thing_at, slotted, with_thing, with_task, with_maker, pushed, with_membership, started}
use Rattle.armus_base.specs.Numbers.{phaser, task}
use Rattle.pl_plan.specs.Unfolding.{Outcome, ◌>>=◌, fault_unless, as_task, as_phaser, unforked_child_by, Thing, a_task, a_phaser, not_member, already_member, has_cells, too_many_cells, too_many_tasks, too_many_phasers, too_many_ops, too_many_visits}

-- what a thing is in the unfolding
abbrev pub thing_of : code.Thing → Option Thing
thing_of a_thing.Nothing = None
thing_of (a_thing.Task c) = Some (a_task c.0)
thing_of (a_thing.Phaser p) = Some (a_phaser p.0)

-- what name x stands for
abbrev pub thing_named : Checker → ℕ → Option Thing
thing_named k x = thing_of (thing_at k x)

-- task t is a member of phaser p
abbrev pub member : Checker → ℕ → ℕ → Bool
member k t p = slice_index_or (slice_index_or k.members t []) p false

-- name x stands for this, with a slot of its own
abbrev pub with_binding : ℕ → code.Thing → Checker → Checker
with_binding x v k = with_thing x v (slotted x k)

-- an op of task t, at statement n
unfoldable pub checker_add : ℕ → ℕ → Op → Checker → Outcome Checker
checker_add t n o k = do
  room ← fault_unless (nat_lt k.counts.ops max_ops) too_many_ops n
  Ok (pushed t o k)

-- x = newTid()
unfoldable pub checker_new_task : ℕ → ℕ → ℕ → Checker → Outcome Checker
checker_new_task t n x k = do
  room ← fault_unless (nat_lt (length k.parents) max_tasks) too_many_tasks n
  cells ← fault_unless (has_cells (length k.parents + 1) (length k.makers)) too_many_cells n
  Ok (with_binding x (a_thing.Task (task (length k.parents))) (with_task t k))

-- x = newPhaser()
unfoldable pub checker_new_phaser : ℕ → ℕ → ℕ → Checker → Outcome Checker
checker_new_phaser t n x k = do
  room ← fault_unless (nat_lt (length k.makers) max_phasers) too_many_phasers n
  cells ← fault_unless (has_cells (length k.parents) (length k.makers + 1)) too_many_cells n
  checker_add t n (op.Make (phaser (length k.makers))) (with_membership t (length k.makers) true (with_binding x (a_thing.Phaser (phaser (length k.makers))) (with_maker t k)))

-- task t drew task c, and task c is not forked
abbrev pub checker_unforked_child : ℕ → ℕ → ℕ → Checker → Outcome (Unit {0})
checker_unforked_child t n c k = unforked_child_by t n (slice_index_or k.parents c None) (is_some (slice_index_or k.starts c None))

-- reg(x, y)
unfoldable pub checker_reg : ℕ → ℕ → ℕ → ℕ → Checker → Outcome Checker
checker_reg t n x y k = do
  c ← as_task n (thing_named k x)
  p ← as_phaser n (thing_named k y)
  mine ← checker_unforked_child t n c k
  inside ← fault_unless (member k t p) not_member n
  outside ← fault_unless (not (member k c p)) already_member n
  checker_add t n (op.Reg (task c) (phaser p)) (with_membership c p true k)

-- the phaser x, of which task t is a member
unfoldable pub checker_member : ℕ → ℕ → ℕ → Checker → Outcome ℕ
checker_member t n x k = do
  p ← as_phaser n (thing_named k x)
  inside ← fault_unless (member k t p) not_member n
  Ok p

-- dereg(x)
unfoldable pub checker_dereg : ℕ → ℕ → ℕ → Checker → Outcome Checker
checker_dereg t n x k = do
  p ← checker_member t n x k
  checker_add t n (op.Drop (phaser p)) (with_membership t p false k)

-- adv(x)
unfoldable pub checker_adv : ℕ → ℕ → ℕ → Checker → Outcome Checker
checker_adv t n x k = do
  p ← checker_member t n x k
  checker_add t n (op.Adv (phaser p)) k

-- await(x), await(x - k) or await(x + k)
unfoldable pub checker_await : ℕ → ℕ → ℕ → Offset → Checker → Outcome Checker
checker_await t n x off k = do
  p ← checker_member t n x k
  checker_add t n (op.Await (phaser p) off) k

-- task t leaves phaser p at its end, if it is a member
unfoldable pub checker_leave : ℕ → ℕ → ℕ → Checker → Outcome Checker
checker_leave t n p k = if member k t p then checker_add t n (op.Drop (phaser p)) (with_membership t p false k) else Ok k

-- the same of each phaser below p, in order
unfoldable pub checker_leave_below : ℕ → ℕ → ℕ → Checker → Outcome Checker
checker_leave_below t n zero k = Ok k
checker_leave_below t n (suc p) k = checker_leave_below t n p k >>= checker_leave t n p

-- fork(x), with the steps of its body before `after`
unfoldable pub checker_fork : ℕ → ℕ → ℕ → ℕ → Checker → Outcome Checker
checker_fork t n x after k = do
  c ← as_task n (thing_named k x)
  mine ← checker_unforked_child t n c k
  checker_add t n (op.Fork (task c)) (started c n after k)

-- a visit
unfoldable pub checker_count : ℕ → Checker → Outcome Checker
checker_count n k = do
  room ← fault_unless (nat_lt k.counts.visits max_visits) too_many_visits n
  Ok (record k { counts = record k.counts { visits = k.counts.visits + 1 } })

-- a statement without a body
abbrev pub checker_act : ℕ → ℕ → FlatStep → Checker → Outcome Checker
checker_act t n (a_step.NewTask x) k = checker_new_task t n x.0 k
checker_act t n (a_step.NewPhaser x) k = checker_new_phaser t n x.0 k
checker_act t n (a_step.Reg x y) k = checker_reg t n x.0 y.0 k
checker_act t n (a_step.Dereg x) k = checker_dereg t n x.0 k
checker_act t n (a_step.Adv x) k = checker_adv t n x.0 k
checker_act t n (a_step.Await x off) k = checker_await t n x.0 off k
checker_act t n (a_step.Fork x after) k = Ok k
checker_act t n (a_step.Loop i after steady) k = Ok k
checker_act t n a_step.Skip k = Ok k

-- the numbers of a step's names are below n
abbrev pub HasNames : ℕ → FlatStep → Type 0
HasNames n (a_step.NewTask x) = x.0 < n
HasNames n (a_step.NewPhaser x) = x.0 < n
HasNames n (a_step.Reg x y) = (x.0 < n) × (y.0 < n)
HasNames n (a_step.Dereg x) = x.0 < n
HasNames n (a_step.Adv x) = x.0 < n
HasNames n (a_step.Await x off) = x.0 < n
HasNames n (a_step.Fork x after) = x.0 < n
HasNames n (a_step.Loop i after steady) = Unit {0}
HasNames n a_step.Skip = Unit {0}

-- what a function returned and left is what this gives, unless memory ran out
abbrev pub GivesChecker : {A : Type 0} → Result A PlanEnd → Outcome Checker → Checker → Type 0
GivesChecker (Ok _) outcome k = outcome ≡ Ok k
GivesChecker (Err (ends.Check f)) outcome k = outcome ≡ Err f
GivesChecker (Err ends.NoMemory) outcome k = Unit {0}

-- the same of a function that only reads
abbrev pub viewed : {A B : Type 0} → (A → B) → Result A CheckFault → Outcome B
viewed view (Ok x) = Ok (view x)
viewed view (Err f) = Err f
