-- Checked plans: what every plan is to which a text unfolds. (There are more: forks in one another, 70 deep, are a checked plan of no text.)
use Rattle.std.specs.Prelude.{◌≡◌, ◌≢◌, ℕ, ◌<◌, ◌≤◌, List, [], ◌∷◌, ◌++◌, Some, None, length}
use Rattle.armus_base.specs.Plans.{Plan, Action, Makes, parent_of, maker_of, actions, action_at}
use Rattle.armus_base.specs.CheckedPlans.{HasFork, IsWellFormed}

-- the plan with which the unfolding begins: task 0 with no code yet, and no pieces
abbrev pub first_plan : Plan
first_plan = record { parents = None ∷ []; makers = []; codes = [] ∷ []; pieces = [] }

-- the first list goes on from the second
abbrev pub Extends : {A : Type 0} → List A → List A → Type 0
Extends more less = (new : List _) × more ≡ less ++ new

-- plan' has more of the code of task t than plan, and perhaps more tasks and phasers; no later task has any code yet
pub record Grows (plan plan' : Plan) (t : ℕ) : Type 0 where
  pub here : t < length plan.parents
  pub parents : Extends plan'.parents plan.parents
  pub makers : Extends plan'.makers plan.makers
  pub own : Extends (actions plan' t) (actions plan t)
  pub others : (u : ℕ) → u ≢ t → actions plan' u ≡ actions plan u
  pub later : (u : ℕ) → t < u → actions plan u ≡ []

-- what is to be checked of that growth: the new actions, phasers and tasks alone
pub record IsSoundGrowth (plan plan' : Plan) (t : ℕ) : Type 0 where
  pub well_formed : (k : ℕ) (x : Action) → length (actions plan t) ≤ k → action_at plan' t k ≡ Some x → IsWellFormed plan' t k x
  pub made :
      (p : ℕ) → length plan.makers ≤ p → p < length plan'.makers → (k : ℕ) × action_at plan' (maker_of plan' p) k ≡ Some (Makes p)
  pub makes_rise :
      (j k p q : ℕ) → j < k → length (actions plan t) ≤ k → action_at plan' t j ≡ Some (Makes p) → action_at plan' t k ≡ Some (Makes q) → p < q
  pub works : 0 < t → HasFork plan t
  pub draws : (c : ℕ) → length plan.parents ≤ c → c < length plan'.parents → 0 < parent_of plan' c → HasFork plan' (parent_of plan' c)
