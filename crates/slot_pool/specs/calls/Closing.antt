-- What is left of a pool when it is closed.
use Rattle.std.specs.Prelude.{◌≡◌, ℕ, List, Option, Some, None, length, slice_get}

-- each task has an entry: a record of that task, where it was placed, and else nothing
pub record AreHome {R : Type 0} (number_of : R → ℕ) (tasks : ℕ) (WasPlaced : ℕ → Type 0) (entries : List (Option R)) : Type 0 where
  pub count : length entries ≡ tasks
  pub some_placed : (t : ℕ) (r : R) → slice_get entries t ≡ Some (Some r) → WasPlaced t × number_of r ≡ t
  pub none_placed : (t : ℕ) → slice_get entries t ≡ Some None → WasPlaced t → ⊥
