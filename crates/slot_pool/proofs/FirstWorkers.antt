-- The workers of a new pool are all of it, and have nothing.
use Rattle.std.proofs.Common.{◌≡◌, ℕ, zero, suc, ◌+◌, ◌<◌, [], ◌∷◌, sym, refl, subst, arith}
use Rattle.std.specs.Prelude.{All, Contains}
use Rattle.std.proofs.lemmas.List.FromFn.{get_or-map-range_with_len, length-map-range_with_len}
use Rattle.slot_pool.specs.calls.PoolValues.{PoolValue, WorkerValue, IsNumberOf, IsOfPool, first_workers}
use Rattle.slot_pool.specs.calls.Views.{starting_view}
use Rattle.slot_pool.proofs.JoinedAll.{any_first, any_rest}
use Rattle.slot_pool.proofs.Members.{contains_first}

module _ (pool : PoolValue) where
  abbrev worker : ℕ → WorkerValue
  worker k = record { table = pool.table; view = starting_view pool.workers k }

  is_worker : (P : WorkerValue → Type 0) → ((k : ℕ) → P (worker k)) → All P (first_workers pool)
  is_worker P each k d l =
      subst P (sym (get_or-map-range_with_len worker 0 pool.workers k k d (let e = length-map-range_with_len worker 0 pool.workers in
      omega arith) (let z : 0 + k ≡ k = omega arith in z))) (each k)

  pub first_made : All (λ w. IsOfPool w pool) (first_workers pool)
  first_made = is_worker (λ w. IsOfPool w pool) (λ k. record { table = refl; workers = refl })

  pub first_idle : All (λ w. w.view.has ≡ []) (first_workers pool)
  first_idle = is_worker (λ w. w.view.has ≡ []) (λ k. refl)

  pub first_numbers : (k : ℕ) → k < pool.workers → IsNumberOf (first_workers pool) k
  first_numbers k l = (
    k,
    worker k,
    (let e = length-map-range_with_len worker 0 pool.workers in omega arith),
    get_or-map-range_with_len worker 0 pool.workers k k (worker k) l (let z : 0 + k ≡ k = omega arith in z),
    contains_first k [],
  )

-- two workers are all of a pool of two
pub pair_numbers : (a b : WorkerValue) → a.view.numbers ≡ 0 ∷ [] → b.view.numbers ≡ 1 ∷ [] → (k : ℕ) → k < 2 → IsNumberOf (a ∷ (b ∷ [])) k
pair_numbers a b first second zero l = any_first (λ (x : WorkerValue). Contains x.view.numbers 0) a (b ∷ []) (subst (λ ns. Contains ns 0) (sym first) (contains_first 0 []))
pair_numbers a b first second (suc zero) l =
    any_rest (λ (x : WorkerValue). Contains x.view.numbers 1) a (b ∷ [])
    (any_first (λ (x : WorkerValue). Contains x.view.numbers 1) b [] (subst (λ ns. Contains ns 1) (sym second) (contains_first 1 [])))
pair_numbers a b first second (suc (suc k)) l = absurd (omega arith)
