-- What is true of each worker.
use Rattle.std.specs.Prelude.{◌≡◌, ℕ, ◌<◌, ◌≤◌, List, [], ◌∷◌, Option, None, Contains, map}
use Rattle.atomic_table.specs.Seated.{TableId}
use Rattle.atomic_table.specs.Table.{Me}
use Rattle.armus_base.specs.calls.Limits.{max_workers}
use Rattle.slot_pool.specs.declared.view.PoolView.{PoolView}
use Rattle.slot_pool.specs.calls.PoolValues.{WorkerValue}

-- what a contract sees of a worker
abbrev pub hand_of : {R : Type 0} → TableId → Me R PoolView → WorkerValue
hand_of table me = record { table = table; view = me.0 }

-- the worker with this number, of a pool with so many tasks, has the slots of the tasks that its view has, nothing is in them, and it knows these tasks
pub record IsAtWork {R : Type 0} (tasks number : ℕ) (me : Me (Option R) PoolView) : Type 0 where
  pub alone : me.0.numbers ≡ number ∷ []
  pub few : me.0.workers ≤ max_workers
  pub slots : me.1 ≡ map (λ t. (t, None)) me.0.has
  pub known : (t : ℕ) → Contains me.0.has t → Contains me.0.knows t
  pub inside : (t : ℕ) → Contains me.0.has t → t < tasks

-- worker 0 has room for an entry of each task
pub record HasRoom {R : Type 0} (tasks number : ℕ) (entries : List R) (room : ℕ) : Type 0 where
  pub empty : entries ≡ []
  pub enough : number ≡ 0 → tasks ≤ room
