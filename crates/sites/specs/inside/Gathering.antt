-- What is gathered of the first sites.
use Rattle.std.specs.Prelude.{◌≡◌, ℕ, ◌+◌, ◌*◌, ◌^◌, ◌<◌, ◌≤◌, List, [], ◌++◌, All, AllPairs, Option, Some, None, length}
use Rattle.armus_base.specs.declared.status.Status.{Status}
use Rattle.sites.specs.calls.Checks.{IsBadAt, IsStored, part_of}
use Rattle.sites.specs.calls.Keeping.{held}
use Rattle.sites.specs.calls.Rows.{IsRowOf}
use Rattle.sites.specs.declared.ends.SiteEnd.{SiteEnd}
use Rattle.sites.specs.declared.ends.SiteEnd.TheVariants.{Bad, Fault, NoMemory}

-- what the site stores was appended, and nothing where it has no row
abbrev pub TakesRow : ℕ → ℕ → Option (List ℕ) → List Status → List Status → Type 0
TakesRow sites site None old new = new ≡ old
TakesRow sites site (Some row) old new = (ss : List Status) × IsRowOf sites site ss row × new ≡ old ++ ss

-- the phasers of a status ascend, and it has fewer than 2^31 phases
pub record HasFewInOrder (s : Status) : Type 0 where
  pub ascends : AllPairs (λ c d. c.p.0 < d.p.0) s.phases
  pub few : length s.phases < 2 ^ 31

-- The statuses that the first n sites store, site after site.
pub record AreGathered (sites : ℕ) (rows : List (Option (List ℕ))) (n : ℕ) (list : List Status) : Type 0 where
  pub each : (site : ℕ) → site < n → IsStored sites site list (held rows site)
  pub later : (site : ℕ) → n ≤ site → part_of sites site list ≡ []
  pub few : length list + n ≤ n * 2 ^ 28
  pub phases : All HasFewInOrder list

-- none of the first n sites has a bad row
abbrev pub NoneBad : ℕ → List (Option (List ℕ)) → ℕ → Type 0
NoneBad sites rows n = (site : ℕ) → site < n → IsBadAt sites rows site → ⊥

-- taking the row of a site ends with its own number where that row is bad
abbrev pub EndsAtSite : ℕ → List (Option (List ℕ)) → ℕ → SiteEnd → Type 0
EndsAtSite sites rows site (Bad s) = s ≡ site × IsBadAt sites rows site
EndsAtSite sites rows site Fault = Unit {0}
EndsAtSite sites rows site NoMemory = Unit {0}
