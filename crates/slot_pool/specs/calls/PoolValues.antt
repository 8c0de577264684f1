-- What contracts see of a pool and of its workers, and what the calls answer.
use Rattle.std.specs.Prelude.{◌≡◌, ◌≢◌, ℕ, ◌+◌, ◌<◌, List, [], ◌∷◌, Result, Ok, Err, Any, Contains, map}
use Rattle.std.specs.List.{range_with_len}
use Rattle.atomic_table.specs.Seated.{TableId}
use Rattle.slot_pool.specs.declared.claim.Claim.{Claim}
use Rattle.slot_pool.specs.declared.claim.Claim.TheVariants.{Got, Held, Empty}
use Rattle.slot_pool.specs.declared.view.PoolView.{PoolView}
use Rattle.slot_pool.specs.calls.Views.{claiming, finding, starting_view, giving, placing, trying}

-- which pool it is, and how many tasks and workers it has
pub record PoolValue : Type 0 where
  pub table : TableId
  pub tasks : ℕ
  pub workers : ℕ

-- of which pool a worker is, and what it knows
pub record WorkerValue : Type 0 where
  pub table : TableId
  pub view : PoolView

-- the worker was made by this pool
pub record IsOfPool (worker : WorkerValue) (pool : PoolValue) : Type 0 where
  pub table : worker.table ≡ pool.table
  pub workers : worker.view.workers ≡ pool.workers

-- it is the same worker of the same pool
pub record IsSameWorker (before now : WorkerValue) : Type 0 where
  pub table : now.table ≡ before.table
  pub numbers : now.view.numbers ≡ before.view.numbers
  pub workers : now.view.workers ≡ before.view.workers

-- the worker with another view
abbrev pub seeing : WorkerValue → PoolView → WorkerValue
seeing worker v = record { table = worker.table; view = v }

-- the workers of a pool at its start, in order of number
abbrev pub first_workers : PoolValue → List WorkerValue
first_workers pool = map (λ k. record { table = pool.table; view = starting_view pool.workers k }) (range_with_len 0 pool.workers)

-- a claim of task t made one step, a compare and exchange. Got: it found the task at home, and the record is that task's. Held: it found the word of another
-- worker. Empty: it found nothing there, of a task that the worker did not know
abbrev pub AnswersClaim : {R : Type 0} → (R → ℕ) → ℕ → WorkerValue → WorkerValue → Claim R → Type 0
AnswersClaim number_of t before now (Got r) = number_of r ≡ t × now ≡ seeing before (claiming t before.view)
AnswersClaim number_of t before now (Held k) = k < before.view.workers × before.view.numbers ≢ k ∷ [] × now ≡ seeing before (finding t (k + 2) before.view)
AnswersClaim number_of t before now Empty = (Contains before.view.knows t → ⊥) × now ≡ seeing before (trying t 0 before.view)

-- the tasks that a worker which had nothing has after a claim of task t
abbrev pub has_after : {R : Type 0} → ℕ → Claim R → List ℕ
has_after t (Got r) = t ∷ []
has_after t (Held k) = []
has_after t Empty = []

-- a record of task t was to be placed. Ok: a compare and exchange found nothing there, of a task that the worker did not know, and a second step brought
-- the record home. Err: the one step was a compare and exchange that found another word, and the record came back
abbrev pub AnswersPlace : {R : Type 0} → ℕ → R → WorkerValue → WorkerValue → Result (Unit {0}) R → Type 0
AnswersPlace t item before now (Ok u) = (Contains before.view.knows t → ⊥) × now ≡ seeing before (giving t (placing t before.view))
AnswersPlace t item before now (Err r) = r ≡ item × (n : ℕ) × n ≢ 0 × now ≡ seeing before (finding t n before.view)

-- one of the workers has placed t
abbrev pub IsPlacedBy : List WorkerValue → ℕ → Type 0
IsPlacedBy workers t = Any (λ w. Contains w.view.placed t) workers

-- k is the number of one of the workers
abbrev pub IsNumberOf : List WorkerValue → ℕ → Type 0
IsNumberOf workers k = Any (λ w. Contains w.view.numbers k) workers
