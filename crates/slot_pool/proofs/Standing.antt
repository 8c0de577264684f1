-- What is true of a worker after each of its steps.
use Rattle.std.proofs.Common.{◌≡◌, ℕ, ◌<◌, List, ◌∷◌, Option, None, map, sym, ap, ◌∙◌, subst, inl, inr, arith}
use Rattle.std.specs.Prelude.{Contains, drop}
use Rattle.atomic_table.specs.Seated.{TableId}
use Rattle.atomic_table.specs.Table.{Me, rest}
use Rattle.slot_pool.specs.declared.view.PoolView.{PoolView}
use Rattle.slot_pool.specs.declared.setting.PoolSetting.{PoolSetting}
use Rattle.slot_pool.specs.calls.PoolValues.{IsOfPool, PoolValue, WorkerValue}
use Rattle.slot_pool.specs.calls.Views.{finding, giving, placing}
use Rattle.slot_pool.specs.inside.Pools.{IsPool, pool_of}
use Rattle.slot_pool.specs.inside.Workers.{HasRoom, IsAtWork}
use Rattle.slot_pool.proofs.Members.{contains_cases, contains_first, contains_rest}

-- nothing is in the slot of task t
abbrev vacant : {R : Type 0} → ℕ → ℕ × Option R
vacant t = (t, None)

-- what a worker of this table keeps
abbrev pub Keeps : {R : Type 0} → TableId → ℕ → Me (Option R) PoolView → List (Option R) → ℕ → Type 0
Keeps table number me entries room = IsAtWork table.words number me × HasRoom table.words number entries room

-- a worker and its pool are at the same table, where a task of the pool has a word
pub at_table :
    {own table : TableId} {key setting : PoolSetting} {hand : WorkerValue} {pool : PoolValue} (t : ℕ) → own ≡ hand.table → pool_of table setting ≡ pool →
    IsPool table key setting → IsOfPool hand pool → t < pool.tasks → (own ≡ table) × (t < table.words) × (t < key.tasks)
at_table t hand pool is made l =
    let tasks = ap (λ f. f.tasks) pool in
    let told = ap (λ k. k.tasks) is.told in
    let words = is.words in
    (hand ∙ made.table ∙ sym (ap (λ f. f.table) pool), omega arith, omega arith)

module _ {R : Type 0} (table after : TableId) (same : after ≡ table) (number : ℕ) (me now : Me (Option R) PoolView) (entries : List (Option R)) (room : ℕ)
    (w : Keeps table number me entries room) where
  -- it is at the same table, and has the same room
  stays : (next : Me (Option R) PoolView) → now ≡ next → IsAtWork table.words number next → Keeps after number now entries room
  stays next is at_work = subst (λ i. Keeps i number now entries room) (sym same) (subst (IsAtWork table.words number) (sym is) at_work, w.1)

  -- it found another word
  pub found_at_work : (t n : ℕ) → now ≡ (finding t n me.0, me.1) → Keeps after number now entries room
  found_at_work t n is =
      stays (finding t n me.0, me.1) is (record {
        alone = w.0.alone;
        few = w.0.few;
        slots = w.0.slots;
        known = λ u c. contains_rest t me.0.knows u
            (w.0.known u c);
        inside = w.0.inside;
      })

  -- it has a task more
  known_more : (t : ℕ) (u : ℕ) → Contains (t ∷ me.0.has) u → Contains (t ∷ me.0.knows) u
  known_more t u c = elim (contains_cases t me.0.has u c) [
    | inl e ↦ subst (Contains (t ∷ me.0.knows)) (sym e) (contains_first t me.0.knows)
    | inr d ↦ contains_rest t me.0.knows u (w.0.known u d)
  ]

  inside_more : (t : ℕ) → t < table.words → (u : ℕ) → Contains (t ∷ me.0.has) u → u < table.words
  inside_more t small u c = elim (contains_cases t me.0.has u c) [
    | inl e ↦ subst (λ i. i < table.words) (sym e) small
    | inr d ↦ w.0.inside u d
  ]

  pub placing_at_work : (t : ℕ) → t < table.words → now ≡ (placing t me.0, (t, None) ∷ me.1) → Keeps after number now entries room
  placing_at_work t small is =
      stays (placing t me.0, (t, None) ∷ me.1) is
      (record { alone = w.0.alone; few = w.0.few; slots = ap (λ (xs : List (ℕ × Option R)). (t, None) ∷ xs) w.0.slots; known = known_more t; inside = inside_more t small })

  -- the slot that it took last is at home
  pub given_at_work : (t : ℕ) (others : List ℕ) → me.0.has ≡ t ∷ others → now ≡ (giving t me.0, rest me.1) → Keeps after number now entries room
  given_at_work t others had is =
      stays (giving t me.0, rest me.1) is
      (record {
        alone = w.0.alone;
        few = w.0.few;
        slots = ap rest w.0.slots ∙ ap (λ ts. rest (map (λ u. vacant {R = R} u) ts)) had ∙ ap (λ ts. map (λ u. vacant {R = R} u) (drop 1 ts)) (sym had);
        known = λ u c. w.0.known u (still u c);
        inside = λ u c. w.0.inside u (still u c);
      })
    where
      still : (u : ℕ) → Contains (drop 1 me.0.has) u → Contains me.0.has u
      still u c = subst (λ ts. Contains ts u) (sym had) (contains_rest t others u (subst (λ ts. Contains (drop 1 ts) u) had c))
