use Rattle.std.proofs.Common.{◌≡◌, ℕ, ◌≤◌, List, [], ◌++◌, length}
use Rattle.std.specs.Prelude.{All, Contains}
use Rattle.std.specs.Vec.{vec_capacity}
use Rattle.slot_pool.specs.inside.Gathering.{Gathers}
use Rattle.slot_pool.specs.calls.PoolValues.{WorkerValue, IsNumberOf, IsOfPool}
use Rattle.slot_pool.proofs.gathering.gather.Given as goal

abbrev pub invariant-loop-worker : goal.invariant-loop-worker
invariant-loop-worker g l =
    record {
      table : l.place.table_id ≡ l.pool.table;
      slots : l.place.me.1 ≡ [];
      number : (k : ℕ) × Contains l.place.me.0.numbers k;
      made : All (λ (w : WorkerValue). IsOfPool w l.pool) l.workers.items;
      idle : All (λ (w : WorkerValue). w.view.has ≡ []) l.workers.items;
      empty : l.entries.items ≡ [];
      gathered :
          (joined : List WorkerValue) × l.fn.workers.items ≡ l.workers.items ++ joined × Gathers joined l.place.me.0
          × (IsNumberOf joined 0 → l.pool.table.words ≤ vec_capacity l.entries);
    }

abbrev pub decreases-loop-worker : goal.decreases-loop-worker
decreases-loop-worker g l = length l.workers.items
