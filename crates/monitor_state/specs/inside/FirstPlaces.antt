-- The first place of a list at which a test passes.
use Rattle.std.specs.Prelude.{◌≡◌, ℕ, ◌<◌, Bool, true, false, List, length, slice_index_or}

-- it passes here, and nowhere before
pub record IsFirstAt {A : Type 0} (p : A → Bool) (xs : List A) (i : ℕ) : Type 0 where
  pub within : i < length xs
  pub before : (k : ℕ) (d : A) → k < i → p (slice_index_or xs k d) ≡ false
  pub here : (d : A) → p (slice_index_or xs i d) ≡ true
