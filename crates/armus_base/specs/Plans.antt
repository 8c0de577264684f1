-- Plans: the tasks with their parents and codes, and the phasers with their makers.
use Rattle.std.specs.Prelude.{◌≡◌, ℕ, List, [], ◌∷◌, Option, Some, map, unwrap_or, slice_get}
use Rattle.std.specs.Option.{option_map}
use Rattle.armus_base.specs.declared.ids.TaskId.{TaskId}
use Rattle.armus_base.specs.declared.offset.Offset.{Offset}
use Rattle.armus_base.specs.declared.op.Op.{Op}
use Rattle.armus_base.specs.declared.op.Op.TheVariants.{Make, Reg, Fork, Adv, Drop, Await}
use Rattle.armus_base.specs.declared.piece.Piece.{Piece}
use Rattle.armus_base.specs.Pieces.{straight}

-- a plan: the parent of each task, the maker of each phaser, each task's code, and each task's pieces, which stand for its code
pub record Plan : Type 0 where
  pub parents : List (Option TaskId)
  pub makers : List TaskId
  pub codes : List (List Op)
  pub pieces : List (List Piece)

-- the plan of these codes, with one piece for each op
abbrev pub straight_plan : List (Option TaskId) → List TaskId → List (List Op) → Plan
straight_plan parents makers codes = record { parents = parents; makers = makers; codes = codes; pieces = map straight codes }

-- what an await aims at: a phaser, and how far from the task's own phase there
pub record Aim : Type 0 where
  pub phaser : ℕ
  pub off : Offset

-- what a task does in one step
pub data Action : Type 0 where
  Makes : (phaser : ℕ) → Action
  Registers : (child : ℕ) (phaser : ℕ) → Action
  Forks : (child : ℕ) → Action
  Advances : (phaser : ℕ) → Action
  Drops : (phaser : ℕ) → Action
  Blocks : (aim : Aim) → Action
  Passes : (phaser : ℕ) → Action
  Refuses : (aim : Aim) → Action

-- the actions of a code: one for each op, and two for an await
abbrev pub actions_of : List Op → List Action
actions_of [] = []
actions_of (Make p ∷ ops) = Makes p.0 ∷ actions_of ops
actions_of (Reg c p ∷ ops) = Registers c.0 p.0 ∷ actions_of ops
actions_of (Fork c ∷ ops) = Forks c.0 ∷ actions_of ops
actions_of (Adv p ∷ ops) = Advances p.0 ∷ actions_of ops
actions_of (Drop p ∷ ops) = Drops p.0 ∷ actions_of ops
actions_of (Await p off ∷ ops) = Blocks (record { phaser = p.0; off = off }) ∷ (Passes p.0 ∷ actions_of ops)

-- the action of the code in whose place this one stands
abbrev pub in_code : Action → Action
in_code (Refuses a) = Blocks a
in_code x = x

-- task t draws task c
abbrev pub IsParentOf : Plan → ℕ → ℕ → Type 0
IsParentOf plan t c = (u : TaskId) × slice_get plan.parents c ≡ Some (Some u) × u.0 ≡ t

-- phaser p is one of the plan, and task t makes it
abbrev pub IsMakerOf : Plan → ℕ → ℕ → Type 0
IsMakerOf plan t p = (u : TaskId) × slice_get plan.makers p ≡ Some u × u.0 ≡ t

-- the number of a task, or 0
abbrev pub number_or_zero : Option (Option TaskId) → ℕ
number_or_zero (Some (Some u)) = u.0
number_or_zero o = 0

-- the task that draws task t, and 0 for what no task draws
unfoldable pub parent_of : Plan → ℕ → ℕ
parent_of plan t = number_or_zero (slice_get plan.parents t)

-- the task that makes phaser p, and 0 for what is no phaser of the plan
unfoldable pub maker_of : Plan → ℕ → ℕ
maker_of plan p = number_or_zero (option_map Some (slice_get plan.makers p))

-- the code of task t
abbrev pub code_of : Plan → ℕ → List Op
code_of plan t = unwrap_or (slice_get plan.codes t) []

-- the actions of task t, in order
unfoldable pub actions : Plan → ℕ → List Action
actions plan t = actions_of (code_of plan t)

-- the action of task t after its first k, if it has so many
unfoldable pub action_at : Plan → ℕ → ℕ → Option Action
action_at plan t k = slice_get (actions plan t) k
