-- The rule of a pool, which holds between any two steps of any workers.
use Rattle.std.specs.Prelude.{◌≡◌, ◌≢◌, ℕ, ◌+◌, ◌<◌, List, [], ◌∷◌, Option, Some, None, Contains, length, slice_index}
use mathlib.Core.Option.{some, none}
use lib.ListN.{get_elem?}
use Rattle.atomic_table.specs.Table.{State}
use Rattle.slot_pool.specs.declared.setting.PoolSetting.{PoolSetting}
use Rattle.slot_pool.specs.declared.view.PoolView.{PoolView}

-- a pool as data: its list of words, the records that are at home, and what each worker knows
abbrev pub PoolContent : Type 0 → Type 0
PoolContent R = State (Option R) PoolView

-- some view lists task t as placed
pub record IsPlacedIn (views : List PoolView) (t : ℕ) : Type 0 where
  pub index : ℕ
  pub view : PoolView
  pub found : get_elem? views index ≡ some view
  pub placed : Contains view.placed t

-- the view of worker k has task t
pub record IsHad (views : List PoolView) (k t : ℕ) : Type 0 where
  pub index : ℕ
  pub view : PoolView
  pub found : get_elem? views index ≡ some view
  pub number : view.numbers ≡ k ∷ []
  pub has : Contains view.has t

-- what a view says is true of the words. A view with a number has the count of the workers, a view without one has placed nothing, and only a view with
-- one number has a task, in whose word it stands
pub record Fits (key : PoolSetting) (words : List ℕ) (v : PoolView) : Type 0 where
  pub number : (k : ℕ) → Contains v.numbers k → (k < key.workers) × (v.workers ≡ key.workers)
  pub blank : v.numbers ≡ [] → v.placed ≡ []
  pub knows : (t : ℕ) → Contains v.knows t → slice_index words t ≢ 0
  pub has : (t : ℕ) → Contains v.has t → (k : ℕ) × v.numbers ≡ k ∷ [] × t < key.tasks × slice_index words t ≡ k + 2

module _ {R : Type 0} (number_of : R → ℕ) where
  -- where task t is: nowhere yet, at home, or out with worker k. Its word is 0 until somebody has placed it; in the slot at home is a record of the task
  pub data StandsInPool (s : PoolContent R) (t : ℕ) : Type 0 where
    nowhere : slice_index s.words t ≡ 0 → get_elem? s.homes t ≡ some (some None) → (IsPlacedIn s.views t → ⊥) → StandsInPool s t
    at_home : (r : R) → slice_index s.words t ≡ 1 → get_elem? s.homes t ≡ some (some (Some r)) → number_of r ≡ t → IsPlacedIn s.views t → StandsInPool s t
    out : (k : ℕ) → slice_index s.words t ≡ k + 2 → get_elem? s.homes t ≡ some none → IsHad s.views k t → IsPlacedIn s.views t → StandsInPool s t

  -- there is a word and a slot for each task, each task stands somewhere, each view fits, and no number is in two views
  pub record PoolHolds (key : PoolSetting) (s : PoolContent R) : Type 0 where
    pub words : length s.words ≡ key.tasks
    pub slots : length s.homes ≡ key.tasks
    pub tasks : (t : ℕ) → t < key.tasks → StandsInPool s t
    pub views : (i : ℕ) (v : PoolView) → get_elem? s.views i ≡ some v → Fits key s.words v
    pub one_view : (i j k : ℕ) (v w : PoolView) → get_elem? s.views i ≡ some v → get_elem? s.views j ≡ some w → Contains v.numbers k → Contains w.numbers k → i ≡ j
