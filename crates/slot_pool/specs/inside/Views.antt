-- Views of the seats of all workers, of which single ones are split off and to which they are joined.
use Rattle.std.specs.Prelude.{ℕ, [], ◌∷◌, ◌++◌, take, drop}
use Rattle.std.specs.List.{range_with_len}
use Rattle.slot_pool.specs.declared.view.PoolView.{PoolView}

-- the view with which a pool begins: of all workers, with task 0 placed
abbrev pub opening_view : ℕ → PoolView
opening_view workers =
    record {
      numbers = range_with_len 0 workers;
      workers = workers;
      knows = 0 ∷ [];
      placed = 0 ∷ [];
      has = [];
      steps = [];
    }

-- the worker that is split off has the first number, and what was placed so far
abbrev pub split_off : PoolView → PoolView
split_off v = record v { numbers = take 1 v.numbers }

-- and the other numbers are left
abbrev pub left_over : PoolView → PoolView
left_over v = record v { numbers = drop 1 v.numbers; placed = [] }

-- two seats as one, with what both know and have placed
abbrev pub joined : PoolView → PoolView → PoolView
joined v w = record v { numbers = v.numbers ++ w.numbers; knows = v.knows ++ w.knows; placed = v.placed ++ w.placed }

-- the view of a seat that was joined to another
abbrev pub blank_view : PoolView
blank_view = record { numbers = []; workers = 0; knows = []; placed = []; has = []; steps = [] }
