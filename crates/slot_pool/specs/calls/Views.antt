-- What a seat of a pool knows, and what its steps make of that.
use Rattle.std.specs.Prelude.{Some, None, ℕ, [], ◌∷◌, drop, ◌==◌, if◌then◌else◌}
use Rattle.slot_pool.specs.declared.view.PoolView.{PoolView}

-- one compare and exchange at the word of task t found n
abbrev pub trying : ℕ → ℕ → PoolView → PoolView
trying t n v = record v { steps = (t, Some n) ∷ v.steps }

-- it found n, which is not 0: the task is known from now on
abbrev pub finding : ℕ → ℕ → PoolView → PoolView
finding t n v = record v { knows = t ∷ v.knows; steps = (t, Some n) ∷ v.steps }

-- it found the task at home, and has it from now on
abbrev pub claiming : ℕ → PoolView → PoolView
claiming t v = record v { knows = t ∷ v.knows; has = t ∷ v.has; steps = (t, Some 1) ∷ v.steps }

-- it found nothing there, and has the task, which counts as placed, until the record is home
abbrev pub placing : ℕ → PoolView → PoolView
placing t v = record v { knows = t ∷ v.knows; placed = t ∷ v.placed; has = t ∷ v.has; steps = (t, Some 0) ∷ v.steps }

-- the record of task t, which it took last, is home, and it has that task no more
abbrev pub giving : ℕ → PoolView → PoolView
giving t v = record v { has = drop 1 v.has; steps = (t, None) ∷ v.steps }

-- the view of worker k at the start: it knows task 0, and it is worker 0 that counts as having placed it
abbrev pub starting_view : ℕ → ℕ → PoolView
starting_view workers k =
    record {
      numbers = k ∷ [];
      workers = workers;
      knows = 0 ∷ [];
      placed = if k == 0 then 0 ∷ [] else [];
      has = [];
      steps = [];
    }
