-- Steps that spell a tree.
use Rattle.std.specs.Prelude.{◌≡◌, ℕ, ◌+◌, ◌<◌, ◌≤◌, List, slice_index_or}
use Rattle.pl_syntax.specs.Tree.{Tree, done, plain, fork, loop, Plain, new_task, new_phaser, reg, dereg, adv, await, skip}
use Rattle.armus_base.specs.Offsets.{IsNear}
use Rattle.armus_base.specs.calls.Pieces.{max_turns}
use Rattle.pl_plan.specs.FoldedOps.{is_steady}
use Rattle.pl_plan.specs.declared.step.NameId.{NameId}
use Rattle.pl_plan.specs.declared.step.FlatStep.{FlatStep}
use Rattle.pl_plan.specs.declared.step.FlatStep.TheVariants as a_step

-- a name's number is below n, and the name has these bytes
abbrev pub IsNumberOfName : ℕ → (ℕ → List ℕ) → NameId → List ℕ → Type 0
IsNumberOfName n names i x = (i.0 < n) × (names i.0 ≡ x)

-- a step is this statement without a body
abbrev pub IsStep : ℕ → (ℕ → List ℕ) → FlatStep → Plain → Type 0
IsStep n names step (new_task x) = (i : NameId) × (step ≡ a_step.NewTask i) × IsNumberOfName n names i x
IsStep n names step (new_phaser x) = (i : NameId) × (step ≡ a_step.NewPhaser i) × IsNumberOfName n names i x
IsStep n names step (reg x y) = (i : NameId) × (j : NameId) × (step ≡ a_step.Reg i j) × IsNumberOfName n names i x × IsNumberOfName n names j y
IsStep n names step (dereg x) = (i : NameId) × (step ≡ a_step.Dereg i) × IsNumberOfName n names i x
IsStep n names step (adv x) = (i : NameId) × (step ≡ a_step.Adv i) × IsNumberOfName n names i x
IsStep n names step (await x off) = (i : NameId) × (step ≡ a_step.Await i off) × IsNumberOfName n names i x × IsNear off
IsStep n names step skip = step ≡ a_step.Skip

-- the step with this index, which is that of the statement with the number after it
abbrev pub step_at : List FlatStep → ℕ → FlatStep
step_at steps i = slice_index_or steps i a_step.Skip

-- the steps from number i on, before number to, are those of the tree
abbrev pub IsSpelled : ℕ → (ℕ → List ℕ) → List FlatStep → ℕ → Tree → ℕ → Type 0
IsSpelled n names steps i done to = i ≡ to
IsSpelled n names steps i (plain s rest) to = IsStep n names (step_at steps i) s × IsSpelled n names steps (i + 1) rest to
IsSpelled n names steps i (fork x body rest) to =
    (id : NameId) × (after : ℕ) × (step_at steps i ≡ a_step.Fork id after) × IsNumberOfName n names id x
    × IsSpelled n names steps (i + 1) body after × IsSpelled n names steps after rest to
IsSpelled n names steps i (loop k body rest) to =
    (after : ℕ) × (step_at steps i ≡ a_step.Loop k after (is_steady body)) × (k ≤ max_turns)
    × IsSpelled n names steps (i + 1) body after × IsSpelled n names steps after rest to

-- there is a tree of these steps
abbrev pub IsList : ℕ → List FlatStep → ℕ → ℕ → Type 0
IsList n steps i to = (names : ℕ → List ℕ) × (tree : Tree) × IsSpelled n names steps i tree to
