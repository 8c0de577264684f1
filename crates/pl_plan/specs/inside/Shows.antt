-- What is kept shows a state of the unfolding.
use Rattle.std.specs.Prelude.{◌≡◌, ℕ, ◌+◌, ◌<◌, false, List, [], ◌∷◌, length, slice_index_or, sum_by, Option, Some, None, Result, Ok, Err}
use Rattle.std.specs.Str.{bytes_eq}
use Rattle.armus_base.specs.Plans.{Plan}
use Rattle.armus_base.specs.declared.ids.TaskId.{TaskId}
use Rattle.armus_base.specs.declared.op.Op.{Op}
use Rattle.pl_plan.specs.declared.step.FlatStep.{FlatStep}
use Rattle.pl_plan.specs.declared.step.Thing as code
use Rattle.pl_plan.specs.declared.step.Thing.TheVariants as a_thing
use Rattle.pl_plan.specs.declared.fault.PlanEnd.{PlanEnd}
use Rattle.pl_plan.specs.declared.fault.PlanEnd.TheVariants as ends
use Rattle.pl_syntax.specs.Tree.{Tree}
use Rattle.pl_plan.specs.inside.Steps.{IsSpelled}
use Rattle.pl_plan.specs.inside.Checker.{Checker, CheckerStart}
use Rattle.pl_plan.specs.inside.CheckerSteps.{thing_of}
use Rattle.armus_base.specs.Pieces.{times}
use Rattle.pl_plan.specs.Unfolding.{UnfoldingState, Start, Names, Outcome, visit, a_turn, visits_of, make_visits}

-- two numbers below n have two names
abbrev pub IsNumbering : ℕ → (ℕ → List ℕ) → Type 0
IsNumbering n names = (x y : ℕ) → x < n → y < n → (x ≡ y → ⊥) → bytes_eq (names x) (names y) ≡ false

-- names stand for the things in their slots
abbrev pub AreNamed : (ℕ → List ℕ) → List ℕ → List code.Thing → Names → Type 0
AreNamed names slots things env =
    (x : ℕ) → x < length slots → env (names x) ≡ thing_of (slice_index_or things (slice_index_or slots x 0) a_thing.Nothing)

-- a start that is kept shows one of the unfolding
pub record StartShows (names : ℕ → List ℕ) (slots : List ℕ) (steps : List FlatStep) (start : Start) (kept : CheckerStart) : Type 0 where
  pub first : start.first ≡ kept.first + 1
  pub spelled : IsSpelled (length slots) names steps kept.first start.body kept.after
  pub named : AreNamed names slots kept.things start.names

-- the same tasks have a start, and each shows its own
abbrev pub MaybeStartShows : (ℕ → List ℕ) → List ℕ → List FlatStep → Option Start → Option CheckerStart → Type 0
MaybeStartShows names slots steps None None = Unit {0}
MaybeStartShows names slots steps (Some start) (Some kept) = StartShows names slots steps start kept
MaybeStartShows names slots steps None (Some kept) = ⊥
MaybeStartShows names slots steps (Some start) None = ⊥

-- these lists and this count of ops are those of the plan
pub record ShowsPlan (drawn : List (Option TaskId)) (made : List TaskId) (written : List (List Op)) (count : ℕ) (plan : Plan) : Type 0 where
  pub parents : plan.parents ≡ drawn
  pub makers : plan.makers ≡ made
  pub codes : plan.codes ≡ written
  pub ops : sum_by length plan.codes ≡ count

-- what is kept shows this state: the same plan, starts, members and visits, and each name of the text stands for the same thing
pub record ShowsState (names : ℕ → List ℕ) (k : Checker) (s : UnfoldingState) : Type 0 where
  pub distinct : IsNumbering (length k.bindings.slots) names
  pub plan : ShowsPlan k.parents k.makers k.codes k.counts.ops s.plan
  pub starts_many : length s.starts ≡ length k.starts
  pub starts : (c : ℕ) → MaybeStartShows names k.bindings.slots k.steps (slice_index_or s.starts c None) (slice_index_or k.starts c None)
  pub members : (v q : ℕ) → s.members v q ≡ slice_index_or (slice_index_or k.members v []) q false
  pub named : AreNamed names k.bindings.slots k.bindings.things s.names
  pub visits : s.visits ≡ k.counts.visits

-- where this is what the unfolding gives
abbrev pub WhereUnfolded : {A : Type 0} → Result A PlanEnd → Outcome UnfoldingState → (UnfoldingState → Type 0) → Type 0
WhereUnfolded (Ok r) outcome shows = (s : UnfoldingState) × (outcome ≡ Ok s) × shows s
WhereUnfolded (Err (ends.Check f)) outcome shows = outcome ≡ Err f
WhereUnfolded (Err ends.NoMemory) outcome shows = Unit {0}

-- the steps from one index on, before another, follow the visits of the tree that they spell
abbrev pub FollowsFrom : ℕ → ℕ → ℕ → Checker → Result (Unit {0}) PlanEnd → Checker → Type 0
FollowsFrom from to t old r new =
    (names : ℕ → List ℕ) (s : UnfoldingState) (tree : Tree) → IsSpelled (length old.bindings.slots) names old.steps from tree to → ShowsState names old s →
    WhereUnfolded r (make_visits t (visits_of (from + 1) tree) s) (ShowsState names new)

-- the turns of the loop with this index follow the visits of its turns
abbrev pub FollowsTurns : ℕ → ℕ → ℕ → ℕ → Checker → Result (Unit {0}) PlanEnd → Checker → Type 0
FollowsTurns at after t turns old r new =
    (names : ℕ → List ℕ) (s : UnfoldingState) (tree : Tree) → IsSpelled (length old.bindings.slots) names old.steps (at + 1) tree after → ShowsState names old s →
    WhereUnfolded r (make_visits t (times turns (visit (at + 1) a_turn ∷ visits_of (at + 1 + 1) tree)) s) (ShowsState names new)
