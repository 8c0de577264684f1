-- Walks along a relation R, the cycles that they reach, and the sets that they need not leave.
use Rattle.std.specs.Prelude.{◌≡◌, ℕ, List, Contains}
use Rattle.std.proofs.Common.{zero, suc}

-- there is a walk of n steps along R from a to b
abbrev pub Walk : {X : Type 0} → (X → X → Type 0) → ℕ → X → X → Type 0
Walk R zero a b = a ≡ b
Walk {X} R (suc n) a b = (c : X) × R a c × Walk R n c b

-- a walk from a leads to a node on a cycle: one with a walk of at least one step back to itself
pub record ReachesCycle {X : Type 0} (R : X → X → Type 0) (a : X) : Type 0 where
  pub node : X
  pub steps : ℕ
  pub walk : Walk R steps a node
  pub more : ℕ
  pub cycle : Walk R (suc more) node node

-- each member of the set has a successor in the set
abbrev pub KeepsOn : {X : Type 0} → (X → X → Type 0) → List X → Type 0
KeepsOn {X} R set = (a : X) → Contains set a → (b : X) × R a b × Contains set b

-- a stands in a set each member of which has a successor in the set
abbrev pub IsInClosedSet : {X : Type 0} → (X → X → Type 0) → X → Type 0
IsInClosedSet {X} R a = (set : List X) × Contains set a × KeepsOn R set
