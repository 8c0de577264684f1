-- The seat from which workers are split off.
use Rattle.std.specs.Prelude.{ℕ, ◌-◌, [], ◌∷◌, ◌==◌, if◌then◌else◌}
use Rattle.std.specs.List.{range_with_len}
use Rattle.slot_pool.specs.declared.view.PoolView.{PoolView}

-- the view that is left for worker k and those after it
abbrev pub left_for : ℕ → ℕ → PoolView
left_for workers k =
    record {
      numbers = range_with_len k (workers - k);
      workers = workers;
      knows = 0 ∷ [];
      placed = if k == 0 then 0 ∷ [] else [];
      has = [];
      steps = [];
    }
