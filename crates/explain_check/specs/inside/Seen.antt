-- What is looked at before a visit, and what the checker does at it.
use Rattle.std.specs.Prelude.{◌≡◌, ℕ, ◌+◌, ◌<◌, length, slice_index_or, Option, Some, None, Result, Ok, Err}
use Rattle.armus_base.specs.declared.ids.TaskId.{TaskId}
use Rattle.armus_base.specs.declared.errors.NoMemory.{NoMemory}
use Rattle.pl_plan.specs.declared.fault.CheckFault.{CheckFault}
use Rattle.pl_plan.specs.declared.fault.PlanEnd.{PlanEnd}
use Rattle.pl_plan.specs.declared.fault.PlanEnd.TheVariants as ends
use Rattle.pl_plan.specs.declared.step.NameId.{NameId}
use Rattle.pl_plan.specs.declared.step.FlatStep.{FlatStep}
use Rattle.pl_plan.specs.declared.step.FlatStep.TheVariants as a_step
use Rattle.pl_plan.specs.declared.step.Thing as code
use Rattle.pl_plan.specs.declared.step.Thing.TheVariants as a_thing
use Rattle.pl_plan.specs.inside.Checker.{Checker, thing_at}
use Rattle.pl_plan.specs.inside.CheckerSteps.{checker_act, checker_count, checker_fork}
use Rattle.pl_plan.specs.Unfolding.{Outcome, ◌>>=◌}
use Rattle.explain_check.specs.declared.frames.Item.{Item}
use Rattle.explain_check.specs.declared.sight.StepSight.{StepSight}
use Rattle.explain_check.specs.inside.Noted.{task_in}

-- the first name of a step
abbrev pub first_name_of : FlatStep → Option NameId
first_name_of (a_step.NewTask x) = None
first_name_of (a_step.NewPhaser x) = None
first_name_of (a_step.Fork x after) = Some x
first_name_of (a_step.Reg x y) = Some x
first_name_of (a_step.Dereg x) = Some x
first_name_of (a_step.Adv x) = Some x
first_name_of (a_step.Await x off) = Some x
first_name_of a_step.Skip = None
first_name_of (a_step.Loop k after steady) = None

-- its second name
abbrev pub second_of : FlatStep → Option NameId
second_of (a_step.NewTask x) = None
second_of (a_step.NewPhaser x) = None
second_of (a_step.Fork x after) = None
second_of (a_step.Reg x y) = Some y
second_of (a_step.Dereg x) = None
second_of (a_step.Adv x) = None
second_of (a_step.Await x off) = None
second_of a_step.Skip = None
second_of (a_step.Loop k after steady) = None

-- what a name stands for, if there is one
abbrev pub thing_seen : Checker → Option NameId → code.Thing
thing_seen k None = a_thing.Nothing
thing_seen k (Some x) = thing_at k x.0

-- the task that drew a task, or task 0 for what is none
abbrev pub parent_seen : Checker → code.Thing → Option TaskId
parent_seen k thing = slice_index_or k.parents (task_in thing) None

-- what is looked at before task t comes to a step
abbrev pub sight_of : Checker → TaskId → Item → StepSight
sight_of k t item = record {
  t = t;
  item = item;
  x = thing_seen k (first_name_of item.step);
  y = thing_seen k (second_of item.step);
  parent = parent_seen k (thing_seen k (first_name_of item.step));
  tasks = length k.parents;
  phasers = length k.makers;
}

-- the name is one of n
abbrev pub IsOneOf : ℕ → Option NameId → Type 0
IsOneOf n None = Unit {0}
IsOneOf n (Some x) = x.0 < n

-- what the checker does at a step, behind the count of the visit
abbrev pub checker_do : ℕ → ℕ → FlatStep → Checker → Outcome Checker
checker_do t n (a_step.NewTask x) k = checker_act t n (a_step.NewTask x) k
checker_do t n (a_step.NewPhaser x) k = checker_act t n (a_step.NewPhaser x) k
checker_do t n (a_step.Fork x after) k = checker_fork t n x.0 after k
checker_do t n (a_step.Reg x y) k = checker_act t n (a_step.Reg x y) k
checker_do t n (a_step.Dereg x) k = checker_act t n (a_step.Dereg x) k
checker_do t n (a_step.Adv x) k = checker_act t n (a_step.Adv x) k
checker_do t n (a_step.Await x off) k = checker_act t n (a_step.Await x off) k
checker_do t n a_step.Skip k = checker_act t n a_step.Skip k
checker_do t n (a_step.Loop i after steady) k = checker_act t n (a_step.Loop i after steady) k

-- a visit
abbrev pub visit_checked : ℕ → ℕ → FlatStep → Checker → Outcome Checker
visit_checked t at step k = checker_count (at + 1) k >>= checker_do t (at + 1) step

-- what was left is what this gives, or the fault is the one that this gives, unless memory ran out
abbrev pub VisitGives : Result (Option CheckFault) NoMemory → Outcome Checker → Checker → Type 0
VisitGives (Ok None) outcome k = outcome ≡ Ok k
VisitGives (Ok (Some f)) outcome k = outcome ≡ Err f
VisitGives (Err e) outcome k = Unit {0}

-- the fault with which a call ends, unless memory ran out
abbrev pub fault_in : PlanEnd → Result (Option CheckFault) NoMemory
fault_in (ends.Check f) = Ok (Some f)
fault_in ends.NoMemory = Err (record {})
