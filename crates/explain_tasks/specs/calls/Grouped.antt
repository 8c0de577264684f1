-- Tasks of which the same is said, together.
use Rattle.std.specs.Prelude.{◌≡◌, ℕ, ◌<◌, List, [], ◌∷◌, ◌++◌, Contains, Some, filter, length, map, slice_get}
use Rattle.armus_base.specs.declared.ids.TaskId.{TaskId}
use Rattle.explain_tasks.specs.Groups.{each_once}
use Rattle.explain_tasks.specs.Sayings.{Said, same_said}
use Rattle.explain_tasks.specs.calls.SayingValues.{said_by}
use Rattle.explain_tasks.specs.declared.grouping.Grouping.{Grouping}

-- a task, and what is said of it
pub record Told : Type 0 where
  pub said : Said
  pub task : TaskId

-- the tasks of which this is said
abbrev pub members_of : List Told → Said → List TaskId
members_of put said = map (λ (p : Told). p.task) (filter (λ (p : Told). same_said said p.said) put)

-- these things were said in this order, and these of them of tasks
pub record IsGrouped (order : List Said) (put : List Told) (g : Grouping) : Type 0 where
  pub once : map said_by g.sayings.keys ≡ each_once same_said order
  pub groups : map (λ v. v.items) g.groups.items ≡ map (members_of put) (each_once same_said order)
  pub told : (p : Told) → Contains put p → Contains order p.said

-- there is a group for each thing that was said
abbrev pub IsSized : Grouping → Type 0
IsSized g = length g.groups.items ≡ length g.sayings.keys

-- one more thing was said, and is the one with this number
abbrev pub NotesSaid : Said → Grouping → Grouping → ℕ → Type 0
NotesSaid said old new at =
    (order : List Said) (put : List Told) → IsGrouped order put old → IsGrouped (order ++ said ∷ []) put new
    × (at < length new.groups.items) × (slice_get (each_once same_said (order ++ said ∷ [])) at ≡ Some said)

-- these things more were said, and these of tasks
abbrev pub AddsTold : List Said → List Told → Grouping → Grouping → Type 0
AddsTold said told old new =
    (order : List Said) (put : List Told) → IsGrouped order put old → IsGrouped (order ++ said) (put ++ told) new
