-- Checked plans: what every plan is to which a text unfolds. (There are more: forks in one another, 70 deep, are a checked plan of no text.)
use Rattle.std.specs.Prelude.{◌≡◌, ◌≢◌, ℕ, ◌+◌, ◌*◌, ◌<◌, ◌≤◌, Some, None, length, slice_get, sum_by}
use Rattle.armus_base.specs.declared.ids.TaskId.{TaskId}
use Rattle.armus_base.specs.Offsets.{IsNear}
use Rattle.armus_base.specs.Limits.{max_tasks, max_phasers, max_ops, max_cells}
use Rattle.armus_base.specs.Plans.{Plan, Action, Makes, Registers, Forks, Advances, Drops, Blocks, IsParentOf, IsMakerOf, parent_of, maker_of, action_at}
use Rattle.armus_base.specs.Places.{phases_after}

-- no earlier action of task t is this one
abbrev pub NotBefore : Plan → ℕ → ℕ → Action → Type 0
NotBefore plan t k x = (j : ℕ) → j < k → action_at plan t j ≢ Some x

-- after the first k of its actions task t is a member of p
abbrev pub IsMemberAfter : Plan → ℕ → ℕ → ℕ → Type 0
IsMemberAfter plan t k p = (n : ℕ) × (phases_after plan t k p ≡ Some n)

-- this action may come after the first k actions of task t
abbrev pub IsWellFormed : Plan → ℕ → ℕ → Action → Type 0
IsWellFormed plan t k (Makes p) = IsMakerOf plan t p × NotBefore plan t k (Makes p)
IsWellFormed plan t k (Registers c p) =
    IsParentOf plan t c × NotBefore plan t k (Forks c) × NotBefore plan t k (Registers c p) × IsMemberAfter plan t k p
IsWellFormed plan t k (Forks c) = IsParentOf plan t c × NotBefore plan t k (Forks c)
IsWellFormed plan t k (Advances p) = IsMemberAfter plan t k p
IsWellFormed plan t k (Drops p) = IsMemberAfter plan t k p
IsWellFormed plan t k (Blocks a) = IsMemberAfter plan t k a.phaser × IsNear a.off
IsWellFormed plan t k x = Unit {0}

-- the code of its parent forks task t
abbrev pub HasFork : Plan → ℕ → Type 0
HasFork plan t = (j : ℕ) × action_at plan (parent_of plan t) j ≡ Some (Forks t)

-- task 0 has no parent, each other task one before it, neither parents nor makers ever fall, and each task has a code
pub record HasTables (plan : Plan) : Type 0 where
  pub root : slice_get plan.parents 0 ≡ Some None
  pub drawn : (t : ℕ) → 0 < t → t < length plan.parents → (u : TaskId) × slice_get plan.parents t ≡ Some (Some u)
  pub parents_first : (t : ℕ) → 0 < t → parent_of plan t < t
  pub parents_rise : (t u : ℕ) → 0 < t → t ≤ u → u < length plan.parents → parent_of plan t ≤ parent_of plan u
  pub makers_rise : (p q : ℕ) → p ≤ q → q < length plan.makers → maker_of plan p ≤ maker_of plan q
  pub one_code_each : length plan.codes ≡ length plan.parents

-- each action is well formed where it stands, each phaser is made, in order of number by one task, and only a forked task works and draws tasks
pub record HasCodes (plan : Plan) : Type 0 where
  pub well_formed : (t k : ℕ) (x : Action) → action_at plan t k ≡ Some x → IsWellFormed plan t k x
  pub made : (p : ℕ) → p < length plan.makers → (k : ℕ) × action_at plan (maker_of plan p) k ≡ Some (Makes p)
  pub makes_rise :
      (t j k p q : ℕ) → j < k → action_at plan t j ≡ Some (Makes p) → action_at plan t k ≡ Some (Makes q) → p < q
  pub works : (t k : ℕ) (x : Action) → 0 < t → action_at plan t k ≡ Some x → HasFork plan t
  pub draws : (c : ℕ) → 0 < c → c < length plan.parents → 0 < parent_of plan c → HasFork plan (parent_of plan c)

-- no more tasks, phasers and ops than a plan may have, and no more words on its board
pub record IsWithinLimits (plan : Plan) : Type 0 where
  pub few_tasks : length plan.parents ≤ max_tasks
  pub few_phasers : length plan.makers ≤ max_phasers
  pub few_ops : sum_by length plan.codes ≤ max_ops
  pub few_cells : length plan.parents * (length plan.makers + 1) ≤ max_cells

-- a checked plan
pub record IsCheckedPlan (plan : Plan) : Type 0 where
  pub tables : HasTables plan
  pub codes : HasCodes plan
  pub limits : IsWithinLimits plan
