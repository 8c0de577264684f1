-- The ops of a code, and the children that they fork.
use Rattle.std.proofs.Common.{◌≡◌, ◌+◌, ◌<◌, ◌*◌, ◌∷◌, ℕ, List, Some, add-one, length, arith, drop, sym, ◌∙◌, ap}
use Rattle.std.specs.Prelude.{slice_get, option_map}
use Rattle.std.proofs.lemmas.Option.{slice_get_within}
use Rattle.armus_base.specs.declared.ids.TaskId.{TaskId}
use Rattle.armus_base.specs.declared.op.Op.{Op}
use Rattle.armus_base.specs.declared.op.Op.TheVariants.{Fork}
use Rattle.armus_base.specs.Limits.{max_ops}
use Rattle.armus_base.specs.CheckedPlans.{IsCheckedPlan}
use Rattle.armus_base.specs.Plans.{Forks, Plan, action_at, actions, code_of}
use Rattle.armus_base.proofs.Codes.{child_within}
use Rattle.pl_core.specs.inside.Ops.{action_of}
use Rattle.pl_core.specs.Tasks.{actions_before}
use Rattle.pl_core.proofs.KeptCursors.{first_left, one_less_left}
use Rattle.pl_core.proofs.OpCounts.{action_before}
use Rattle.pl_core.proofs.StepKinds.{few_own_ops}

-- an op that forks is an action that forks
fork_there : (plan : Plan) (t k : ℕ) (c : TaskId) → slice_get (code_of plan t) k ≡ Some (Fork c) → action_at plan t (actions_before (code_of plan t) k) ≡ Some (Forks c.0)
unfolding action_at actions
fork_there plan t k c e =
    action_before (code_of plan t) k (let l = slice_get_within (code_of plan t) k (Fork c) e in omega arith) ∙ ap (option_map action_of) e

-- a child that is forked is a task of the plan
pub child_is_task : (plan : Plan) (t k : ℕ) (c : TaskId) → IsCheckedPlan plan → slice_get (code_of plan t) k ≡ Some (Fork c) → c.0 < length plan.parents
child_is_task plan t k c checked e =
    child_within plan t c.0 (checked.codes.well_formed t (actions_before (code_of plan t) k) (Forks c.0) (fork_there plan t k c e)).0

-- what a task does next, and what is left behind it
pub next_there : (plan : Plan) (t k : ℕ) (ops rest : List Op) (op : Op) → ops ≡ drop k (code_of plan t) → ops ≡ op ∷ rest → slice_get (code_of plan t) k ≡ Some op
next_there plan t k ops rest op left is = sym (first_left (code_of plan t) k) ∙ ap (λ xs. slice_get xs 0) (sym left ∙ is)

pub next_behind : (plan : Plan) (t k : ℕ) (ops rest : List Op) (op : Op) → ops ≡ drop k (code_of plan t) → ops ≡ op ∷ rest → rest ≡ drop (k + 1) (code_of plan t)
next_behind plan t k ops rest op left is =
    sym (ap (drop 1) (sym left ∙ is)) ∙ one_less_left (code_of plan t) k ∙ sym (ap (λ n. drop n (code_of plan t)) (add-one k))

-- few ops come before one that is there
pub few_before : (plan : Plan) (t k : ℕ) (op : Op) → IsCheckedPlan plan → slice_get (code_of plan t) k ≡ Some op → k < 2 * max_ops
few_before plan t k op checked is = (let few = few_own_ops plan t checked in let l = slice_get_within (code_of plan t) k op is in omega arith)
