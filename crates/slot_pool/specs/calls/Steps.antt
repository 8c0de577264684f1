-- What each step on the table tells its worker.
use Rattle.std.specs.Prelude.{◌≡◌, ◌≢◌, ℕ, ◌+◌, ◌<◌, [], ◌∷◌, Option, Some, None, Contains}
use Rattle.atomic_table.specs.Table.{Me, Step, rest}
use Rattle.slot_pool.specs.declared.view.PoolView.{PoolView}
use Rattle.slot_pool.specs.calls.Views.{claiming, finding, giving, placing, trying}

-- the word of a claimed task was found: 1, and the slot is the worker's, with a record of the task; 0, of a task that it did not know; or the word of a
-- worker, which is another one where this one has nothing
pub record Claimed {R : Type 0} (number_of : R → ℕ) (step : Step (Option R)) (before : Me (Option R) PoolView) (found : ℕ) (now : Me (Option R) PoolView) : Type 0 where
  pub got : found ≡ 1 → (r : R) × number_of r ≡ step.word × now ≡ (claiming step.word before.0, (step.word, Some r) ∷ before.1)
  pub empty : found ≡ 0 → (Contains before.0.knows step.word → ⊥) × now ≡ (trying step.word 0 before.0, before.1)
  pub held : found ≢ 1 → found ≢ 0 → (k : ℕ) × found ≡ k + 2 × k < before.0.workers × (before.0.has ≡ [] → before.0.numbers ≢ k ∷ []) ×
      now ≡ (finding step.word found before.0, before.1)

-- the word of a task that is to be placed was found: 0, and its slot, in which nothing is, is the worker's; or another word
pub record HasBegun {R : Type 0} (step : Step (Option R)) (before : Me (Option R) PoolView) (found : ℕ) (now : Me (Option R) PoolView) : Type 0 where
  pub placed : found ≡ 0 → (Contains before.0.knows step.word → ⊥) × now ≡ (placing step.word before.0, (step.word, None) ∷ before.1)
  pub refused : found ≢ 0 → now ≡ (finding step.word found before.0, before.1)

-- the slot that the worker took last is at home
abbrev pub GivenBack : {R : Type 0} → Step (Option R) → Me (Option R) PoolView → ℕ → Me (Option R) PoolView → Type 0
GivenBack step before n now = now ≡ (giving step.word before.0, rest before.1)
