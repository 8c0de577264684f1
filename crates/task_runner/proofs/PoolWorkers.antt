-- The workers of a pool after they have worked.
use Rattle.std.proofs.Common.{◌≡◌, ℕ, zero, suc, ◌<◌, List, [], ◌∷◌, length, get_or, map, sym, refl, ap, ◌∙◌, subst, arith}
use Rattle.std.specs.Prelude.{Contains}
use Rattle.board.specs.calls.Seats.{Frame}
use Rattle.slot_pool.specs.calls.PoolValues.{WorkerValue, IsOfPool, IsSameWorker, PoolValue, first_workers}
use Rattle.slot_pool.proofs.FirstWorkers.{first_idle, first_made, first_numbers}
use Rattle.task_runner.specs.inside.Pooled.{AreAllWorkers, KeepsWhatItHas, IsIdleWorker}

pub first_all : (pool : PoolValue) → AreAllWorkers pool (first_workers pool)
first_all pool = record { made = first_made pool; each = first_numbers pool; idle = first_idle pool }

pub as_they_are : (hands : List WorkerValue) → map (λ h. h) hands ≡ hands
as_they_are [] = refl
as_they_are (h ∷ hands) = ap (λ hs. h ∷ hs) (as_they_are hands)

-- the same workers of the pool
pub same_made : (pool : PoolValue) (old new : WorkerValue) → IsOfPool old pool → IsSameWorker old new → IsOfPool new pool
same_made pool old new made same = record { table = same.table ∙ made.table; workers = same.workers ∙ made.workers }

pub goes_on : (a b c : WorkerValue) → KeepsWhatItHas a b → KeepsWhatItHas b c → KeepsWhatItHas a c
goes_on a b c p q =
    record {
      same = record { table = q.same.table ∙ p.same.table; numbers = q.same.numbers ∙ p.same.numbers; workers = q.same.workers ∙ p.same.workers };
      has = q.has ∙ p.has;
    }

-- the same worker, which has what it had, may work on
pub may_on : (board : Frame) (pool : PoolValue) (old new : WorkerValue) → IsIdleWorker board pool old → KeepsWhatItHas old new → IsIdleWorker board pool new
may_on board pool old new may goes = record { tasks = may.tasks; made = same_made pool old new may.made goes.same; idle = goes.has ∙ may.idle }

-- what stands at a place of a list
pub there : {X : Type 0} (worker_value : X → WorkerValue) (xs : List X) (k : ℕ) → k < length xs → (x : X) × ((e : X) → get_or xs k e ≡ x) × ((d : WorkerValue) → get_or (map worker_value xs) k d ≡ worker_value x)
there worker_value [] k l = absurd (omega arith)
there worker_value (x ∷ xs) zero l = (x, (λ e. refl), (λ d. refl))
there worker_value (x ∷ xs) (suc k) l = there worker_value xs k (omega arith)

pub as_many : {X : Type 0} (worker_value : X → WorkerValue) (xs : List X) → length (map worker_value xs) ≡ length xs
as_many worker_value [] = refl
as_many worker_value (x ∷ xs) = ap suc (as_many worker_value xs)

-- each worker may work
pub ready :
    {X : Type 0} (worker_value : X → WorkerValue) (board : Frame) (pool : PoolValue) (xs : List X) → pool.tasks ≡ length board.plan.parents →
    AreAllWorkers pool (map worker_value xs) → (i : ℕ) (x : X) → i < length xs → x ≡ get_or xs i x → IsIdleWorker board pool (worker_value x)
ready worker_value board pool xs tasks all i x l is =
    let t = there worker_value xs i l in
    let same : worker_value t.0 ≡ worker_value x = ap worker_value (sym (is ∙ t.1 x)) in
    let inside : i < length (map worker_value xs) = (let m = as_many worker_value xs in omega arith) in
    record {
      tasks = tasks;
      made = subst (λ h. IsOfPool h pool) (t.2 (worker_value x) ∙ same) (all.made i (worker_value x) inside);
      idle = subst (λ (h : WorkerValue). h.view.has ≡ []) (t.2 (worker_value x) ∙ same) (all.idle i (worker_value x) inside);
    }

-- what became of the worker at a place
abbrev pub IsAfter : {X : Type 0} → (X → WorkerValue) → List X → List X → ℕ → X → Type 0
IsAfter {X} worker_value olds news i d = (old : X) × ((e : X) → get_or olds i e ≡ old) × KeepsWhatItHas (worker_value old) (worker_value (get_or news i d))

-- each worker in its place is the same one, and has no task
module _ {X : Type 0} (worker_value : X → WorkerValue) (pool : PoolValue) (olds news : List X) (all : AreAllWorkers pool (map worker_value olds)) (count : length news ≡ length olds)
    (after : (i : ℕ) (d : X) → i < length olds → IsAfter worker_value olds news i d) where
  -- the old worker and the new one at a place
  at : (k : ℕ) → k < length olds → (a b : X) × ((d : WorkerValue) → get_or (map worker_value olds) k d ≡ worker_value a) × ((d : WorkerValue) → get_or (map worker_value news) k d ≡ worker_value b)
      × KeepsWhatItHas (worker_value a) (worker_value b)
  at k l =
      let o = there worker_value olds k l in
      let n = there worker_value news k (omega arith) in
      let s = after k n.0 l in
      let old : s.0 ≡ o.0 = sym (s.1 s.0) ∙ o.1 s.0 in
      let new : get_or news k n.0 ≡ n.0 = n.1 n.0 in (
        o.0,
        n.0,
        o.2,
        n.2,
        subst (λ x. KeepsWhatItHas (worker_value x) (worker_value n.0)) old (subst (λ y. KeepsWhatItHas (worker_value s.0) (worker_value y)) new s.2),
      )

  pub all_after : AreAllWorkers pool (map worker_value news)
  all_after =
      record {
        made = λ k d l.
            let r = at k (let m = as_many worker_value news in omega arith) in
            let old : IsOfPool (worker_value r.0) pool = subst (λ h. IsOfPool h pool) (r.2 d) (all.made k d (let m = as_many worker_value news in let n = as_many worker_value olds in omega arith)) in
            subst (λ h. IsOfPool h pool) (sym (r.3 d)) (same_made pool (worker_value r.0) (worker_value r.1) old r.4.same);
        each = λ k l.
            let old = all.each k l in
            let r = at old.0 (let m = old.2 in let n = as_many worker_value olds in omega arith) in
            let same : old.1 ≡ worker_value r.0 = sym old.3 ∙ r.2 old.1 in
            let has : Contains (worker_value r.0).view.numbers k = subst (λ (h : WorkerValue). Contains h.view.numbers k) same old.4 in (
              old.0,
              worker_value r.1,
              (let m = old.2 in let n = as_many worker_value olds in let j = as_many worker_value news in omega arith),
              r.3 (worker_value r.1),
              subst (λ ns. Contains ns k) (sym r.4.same.numbers) has,
            );
        idle = λ k d l.
            let r = at k (let m = as_many worker_value news in omega arith) in
            let was : (worker_value r.0).view.has ≡ [] =
            subst (λ (h : WorkerValue). h.view.has ≡ []) (r.2 d) (all.idle k d (let m = as_many worker_value news in let n = as_many worker_value olds in omega arith)) in
            subst (λ (h : WorkerValue). h.view.has ≡ []) (sym (r.3 d)) (r.4.has ∙ was);
      }
