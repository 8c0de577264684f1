-- What is said of impeders, by the numbers of what is said of tasks.
use Rattle.std.specs.Prelude.{◌≡◌, ◌==◌, ℕ, ◌<◌, List, [], ◌++◌, All, length, map, slice_index, take}
use Rattle.explain_tasks.specs.declared.impeders.Impeder.{Impeder}
use Rattle.explain_tasks.specs.Facts.{FactsValue}
use Rattle.explain_tasks.specs.Groups.{each_once}
use Rattle.explain_tasks.specs.Sayings.{Said, impeder_said, impeding_said, same_said}

-- what the line of task u says where it impedes an event with phase 0, but for what it does next
abbrev pub said_at : FactsValue → ℕ → Said
said_at f u = impeding_said f u 0 []

-- each task has a number, and two have the same exactly where the same is said of them but for the phase and for what they do next
pub record AreNumbers (f : FactsValue) (numbers : List ℕ) : Type 0 where
  pub sized : length numbers ≡ length f.standings
  pub same :
      (u v : ℕ) → u < length f.standings → v < length f.standings →
      (slice_index numbers u == slice_index numbers v) ≡ same_said (said_at f u) (said_at f v)

-- the impeders are of the first so many tasks
abbrev pub AreWithin : ℕ → List Impeder → Type 0
AreWithin n impeders = All (λ i. i.t.0 < n) impeders

-- where the first three things that were said are those of the old impeders, those of the new ones are the first three when this more is said
abbrev pub AddsFirst : FactsValue → List Said → List Impeder → List Impeder → Type 0
AddsFirst f said old new =
    (order : List Said) → map (impeder_said f) old ≡ take 3 (each_once same_said order) →
    map (impeder_said f) new ≡ take 3 (each_once same_said (order ++ said))
