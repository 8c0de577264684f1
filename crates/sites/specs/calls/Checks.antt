-- Checks: what is analysed of the rows of all sites, whatever moments they are of, and which row is bad.
use Rattle.std.specs.Prelude.{◌≡◌, ℕ, ◌<◌, List, [], Option, Some, None, Result, Ok, Err}
use Rattle.std.specs.List.{filter}
use Rattle.armus_base.specs.declared.status.Status.{Status}
use Rattle.armus_base.specs.Causes.{counted}
use Rattle.armus_base.specs.calls.Statuses.{IsInOrder}
use Rattle.adaptive.specs.declared.analysis.Analysis.{Analysis}
use Rattle.adaptive.specs.declared.analysis.Wanted.{Wanted}
use Rattle.adaptive.specs.calls.Choice.{IsAnalysis}
use Rattle.sites.specs.declared.ends.SiteEnd.{SiteEnd}
use Rattle.sites.specs.declared.ends.SiteEnd.TheVariants.{Bad, Fault, NoMemory}
use Rattle.sites.specs.calls.Keeping.{held}
use Rattle.sites.specs.calls.Rows.{IsBadRow, IsRowOf, is_of_site}

-- the part of a list of statuses that is of one site
abbrev pub part_of : ℕ → ℕ → List Status → List Status
part_of sites site ss = filter (λ s. is_of_site sites site s.t.0) ss

-- what is held of a site stores its part of the list; a site without a row has none
abbrev pub IsStored : ℕ → ℕ → List Status → Option (List ℕ) → Type 0
IsStored sites site ss None = part_of sites site ss ≡ []
IsStored sites site ss (Some row) = IsRowOf sites site (part_of sites site ss) row

-- the statuses of all sites together, in order of task
pub record AreAll (sites : ℕ) (rows : List (Option (List ℕ))) (ss : List Status) : Type 0 where
  pub in_order : IsInOrder ss
  pub each : (site : ℕ) → site < sites → IsStored sites site ss (held rows site)

-- a check of these rows: an analysis of all their statuses together
pub record IsCheck (sites : ℕ) (rows : List (Option (List ℕ))) (wanted : Wanted) (a : Analysis) : Type 0 where
  pub list : List Status
  pub all : AreAll sites rows list
  pub analysis : IsAnalysis list wanted a

-- the row that is held of the site is bad
abbrev pub IsBadAt : ℕ → List (Option (List ℕ)) → ℕ → Type 0
IsBadAt sites rows site = (row : List ℕ) × held rows site ≡ Some row × IsBadRow sites site row

-- the row of this site is bad, and that of no site below it is
pub record IsFirstBad (sites : ℕ) (rows : List (Option (List ℕ))) (site : ℕ) : Type 0 where
  pub within : site < sites
  pub bad : IsBadAt sites rows site
  pub first : (earlier : ℕ) → earlier < site → IsBadAt sites rows earlier → ⊥

-- where the check ends with a bad row it names the first site that has one
abbrev pub IsSiteEnd : ℕ → List (Option (List ℕ)) → SiteEnd → Type 0
IsSiteEnd sites rows (Bad site) = IsFirstBad sites rows site
IsSiteEnd sites rows Fault = Unit {0}
IsSiteEnd sites rows NoMemory = Unit {0}

-- the count of faults after a check that answers this: one more after a fault, and as before after every other answer
abbrev pub count_after_check : {T : Type 0} → Result T SiteEnd → ℕ → ℕ
count_after_check (Err Fault) n = counted n
count_after_check (Err (Bad site)) n = n
count_after_check (Err NoMemory) n = n
count_after_check (Ok x) n = n
