-- What an unfolding is, in other words than its computation: stage by stage, each task in order of number begins and visits its statements;
-- and the first stage at fault.
use Rattle.std.specs.Prelude.{◌≡◌, ℕ, zero, suc, ◌+◌, ◌-◌, Bool, true, false, if◌then◌else◌, nat_lt, sum_by, List, [], ◌∷◌, ◌++◌, length, map, slice_index_or, Option, Some, None}
use Rattle.armus_base.specs.declared.op.Op.{Op}
use Rattle.armus_base.specs.declared.op.Op.TheVariants as op
use Rattle.pl_syntax.specs.declared.tree.Program.{Program}
use Rattle.pl_syntax.specs.Tree.{new_task, new_phaser, reg, dereg, adv, await, skip}
use Rattle.pl_plan.specs.declared.fault.CheckFault.{CheckFault}
use Rattle.armus_base.specs.Numbers.{phaser, task}
use Rattle.pl_plan.specs.Unfolding.{Coming, a_plain, a_fork, a_loop, a_turn, Visit, visits_of, UnfoldingState, Start, with_op, with_member, with_members, with_new_task, with_new_phaser, with_start, with_names, opening_state}
use Rattle.pl_plan.specs.Tests.{Passes, IsFirstFailing, first_thing, phaser_wanted, task_number}

-- a stage of the unfolding: a task begins, it comes to a statement, or at its end it leaves a phaser if it is a member
pub data Stage : Type 0 where
  begins : (task : ℕ) → Stage
  comes : (task : ℕ) (visit : Visit) → Stage
  leaves : (task : ℕ) (phaser : ℕ) → Stage

-- task t leaves the phasers with a number below p, in order
abbrev pub leaves_below : ℕ → ℕ → List Stage
leaves_below t zero = []
leaves_below t (suc p) = leaves_below t p ++ leaves t p ∷ []

-- the last stages of a task: in PL 2 it leaves all phasers
abbrev pub ends_of : Bool → ℕ → List Stage
ends_of false t = []
ends_of true t = leaves_below t 1024

-- the stages of task t, by that with which it was forked: it begins, comes to its statements, and ends; one that is not forked has none
abbrev pub stages_of : Bool → ℕ → Option Start → List Stage
stages_of two t None = []
stages_of two t (Some start) = begins t ∷ (map (λ m. comes t m) (visits_of start.first start.body) ++ ends_of two t)

-- the stages of the tasks below n, in order of number
abbrev pub stages_below : Bool → ℕ → UnfoldingState → List Stage
stages_below two zero s = []
stages_below two (suc n) s = stages_below two n s ++ stages_of two n (slice_index_or s.starts n None)

-- the stages of all tasks that there are
abbrev pub all_stages : Bool → UnfoldingState → List Stage
all_stages two s = stages_below two (length s.plan.parents) s

-- ---- what a stage does

-- task t's code goes on with this op
abbrev pub with_code : ℕ → Op → UnfoldingState → UnfoldingState
with_code t o s = record s { plan = with_op t o s.plan }

-- what task t does at statement n, where no test fails
abbrev pub done_at : ℕ → ℕ → Coming → UnfoldingState → UnfoldingState
done_at t n (a_plain (new_task x)) s = with_new_task t x s
done_at t n (a_plain (new_phaser x)) s = with_code t (op.Make (phaser (length s.plan.makers))) (with_new_phaser t x s)
done_at t n (a_plain (reg x y)) s =
    let c = a_plain (reg x y) in
    with_code t (op.Reg (task (task_number (first_thing s c))) (phaser (phaser_wanted s c)))
    (with_members (with_member (task_number (first_thing s c)) (phaser_wanted s c) true s.members) s)
done_at t n (a_plain (dereg x)) s =
    let c = a_plain (dereg x) in with_code t (op.Drop (phaser (phaser_wanted s c))) (with_members (with_member t (phaser_wanted s c) false s.members) s)
done_at t n (a_plain (adv x)) s = with_code t (op.Adv (phaser (phaser_wanted s (a_plain (adv x))))) s
done_at t n (a_plain (await x off)) s = with_code t (op.Await (phaser (phaser_wanted s (a_plain (await x off)))) off) s
done_at t n (a_plain skip) s = s
done_at t n (a_fork x body) s =
    let c = task_number (first_thing s (a_fork x body)) in
    with_code t (op.Fork (task c)) (with_start c (record { body = body; first = n + 1; names = s.names }) s)
done_at t n a_loop s = s
done_at t n a_turn s = s

-- a task that begins has the names of its start
abbrev pub with_start_names : Option Start → UnfoldingState → UnfoldingState
with_start_names None s = s
with_start_names (Some start) s = with_names start.names s

-- the state after a stage
abbrev pub after_stage : Stage → UnfoldingState → UnfoldingState
after_stage (begins t) s = with_start_names (slice_index_or s.starts t None) s
after_stage (comes t m) s = done_at t m.statement m.coming (record s { visits = s.visits + 1 })
after_stage (leaves t p) s =
    if s.members t p then with_code t (op.Drop (phaser p)) (with_members (with_member t p false s.members) s) else s

-- an op is left
abbrev pub has_op_left : UnfoldingState → Bool
has_op_left s = nat_lt (sum_by length s.plan.codes) 1048576

-- no test of a stage fails
abbrev pub StagePasses : Stage → UnfoldingState → Type 0
StagePasses (begins t) s = Unit {0}
StagePasses (comes t m) s = Passes s t m.coming
StagePasses (leaves t p) s = s.members t p ≡ true → has_op_left s ≡ true

-- ---- unfoldings

-- behind these stages the next one of all is this
abbrev pub IsNextStage : Bool → List Stage → Stage → UnfoldingState → Type 0
IsNextStage two before v s = (rest : List Stage) × (all_stages two s ≡ before ++ (v ∷ rest))

-- behind the stages before, these are the next ones, and each of them passes its tests in the state after those before it
abbrev pub StagesLead : Bool → List Stage → List Stage → UnfoldingState → UnfoldingState → Type 0
StagesLead two before [] s end = s ≡ end
StagesLead two before (v ∷ vs) s end =
    IsNextStage two before v s × StagePasses v s × StagesLead two (before ++ v ∷ []) vs (after_stage v s) end

-- A stage is at fault: at a visit by the first row of the table that is, with the visit's statement; at an end for want of an op, with the statement of
-- the task's fork, and 0 for task 0.
pub data FailsAt (s : UnfoldingState) : Stage → CheckFault → Type 0 where
  at_visit : {t : ℕ} {m : Visit} {fault : CheckFault} → IsFirstFailing s t m.coming fault.kind → m.statement ≡ fault.statement → FailsAt s (comes t m) fault
  at_end :
      {t p : ℕ} {fault : CheckFault} (start : Start) → slice_index_or s.starts t None ≡ Some start → s.members t p ≡ true → has_op_left s ≡ false →
      fault ≡ record { kind = 9; statement = start.first - 1 } → FailsAt s (leaves t p) fault

-- the first fault of a program: behind a list of such stages the next one is at fault
pub record IsFirstCheckFault (program : Program) (fault : CheckFault) : Type 0 where
  pub stages : List Stage
  pub there : UnfoldingState
  pub leads : StagesLead program.two [] stages (opening_state program.body) there
  pub stage : Stage
  pub next : IsNextStage program.two stages stage there
  pub fails : FailsAt there stage fault
