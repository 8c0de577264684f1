-- Circles of tasks: each task leads to the one behind it, and the last to the first.
use Rattle.std.specs.Prelude.{◌≡◌, ◌⊎◌, ◌<◌, List, [], ◌∷◌, length}
use Rattle.armus_base.specs.declared.ids.TaskId.{TaskId}

-- from task t a walk along R goes by way of these tasks to this last one
abbrev pub LeadsBackTo : (TaskId → TaskId → Type 0) → TaskId → TaskId → List TaskId → Type 0
LeadsBackTo R last t [] = R t last
LeadsBackTo R last t (u ∷ rest) = R t u × LeadsBackTo R last u rest

-- the tasks are a circle through task t: a walk along R goes from t by way of the others back to t
abbrev pub IsCircleThrough : (TaskId → TaskId → Type 0) → TaskId → List TaskId → Type 0
IsCircleThrough R t [] = ⊥
IsCircleThrough R t (u ∷ rest) = (u ≡ t) × LeadsBackTo R t t rest

-- of two lists the first one has the less task, by number, where they first differ
abbrev pub HasLess : List TaskId → List TaskId → Type 0
HasLess [] other = ⊥
HasLess (t ∷ one) [] = ⊥
HasLess (t ∷ one) (u ∷ other) = (t.0 < u.0) ⊎ ((t ≡ u) × HasLess one other)

-- of two lists the first one is shorter, or as long and has the less task where they first differ
abbrev pub IsListedBefore : List TaskId → List TaskId → Type 0
IsListedBefore one other = (length one < length other) ⊎ ((length one ≡ length other) × HasLess one other)

-- they are the same, or the first one is before the other
abbrev pub IsNoLater : List TaskId → List TaskId → Type 0
IsNoLater one other = (one ≡ other) ⊎ IsListedBefore one other

-- the first circle through task t: a shortest one, and of these the one with the less task where they first differ
pub record IsFirstThrough (R : TaskId → TaskId → Type 0) (t : TaskId) (circle : List TaskId) : Type 0 where
  pub closes : IsCircleThrough R t circle
  pub first : (other : List TaskId) → IsCircleThrough R t other → IsNoLater circle other
