-- What the first sites hold of statuses that are known as a whole.
use Rattle.std.specs.Prelude.{◌≡◌, ℕ, ◌≤◌, ◌<◌, List, Option, Some, length, slice_set}
use Rattle.armus_base.specs.declared.status.Status.{Status}
use Rattle.sites.specs.calls.Checks.{part_of}
use Rattle.sites.specs.calls.Keeping.{held}
use Rattle.sites.specs.calls.Parts.{IsPartHeld}
use Rattle.sites.specs.calls.Rows.{IsRowOf}

-- a row that stores the site's part of the statuses was put: no other row changed
pub record PutsPart (sites site : ℕ) (ss : List Status) (old new : List (Option (List ℕ))) : Type 0 where
  pub row : List ℕ
  pub stored : IsRowOf sites site (part_of sites site ss) row
  pub rows : new ≡ slice_set old site (Some row)

-- the first n sites hold their parts, and the rows of the others are as before
pub record HavePut (sites n : ℕ) (ss : List Status) (old new : List (Option (List ℕ))) : Type 0 where
  pub count : length new ≡ length old
  pub put : (site : ℕ) → site < n → IsPartHeld sites site ss (held new site)
  pub others : (site : ℕ) → n ≤ site → held new site ≡ held old site
