-- The seat to which those of all workers are joined.
use Rattle.std.specs.Prelude.{◌≡◌, ℕ, List, [], Contains}
use Rattle.slot_pool.specs.declared.view.PoolView.{PoolView}
use Rattle.slot_pool.specs.calls.PoolValues.{WorkerValue, IsNumberOf, IsPlacedBy}

-- the view has the numbers of these workers and has placed what they have placed, and it has nothing
pub record Gathers (workers : List WorkerValue) (v : PoolView) : Type 0 where
  pub numbers : (k : ℕ) → IsNumberOf workers k → Contains v.numbers k
  pub placed : (t : ℕ) → IsPlacedBy workers t → Contains v.placed t
  pub no_more : (t : ℕ) → Contains v.placed t → IsPlacedBy workers t
  pub idle : v.has ≡ []
