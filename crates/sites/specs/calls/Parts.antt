-- Parts: what each site holds of statuses that are known as a whole.
use Rattle.std.specs.Prelude.{◌≡◌, ℕ, ◌<◌, ◌⊎◌, List, Option, Some, length}
use Rattle.armus_base.specs.declared.status.Status.{Status}
use Rattle.sites.specs.calls.Checks.{part_of}
use Rattle.sites.specs.calls.Keeping.{held}
use Rattle.sites.specs.calls.Rows.{IsRowOf}

-- a row is held, and it stores the site's part of the statuses
abbrev pub IsPartHeld : ℕ → ℕ → List Status → Option (List ℕ) → Type 0
IsPartHeld sites site ss row = (bytes : List ℕ) × row ≡ Some bytes × IsRowOf sites site (part_of sites site ss) bytes

-- each of the sites holds its part of the statuses
abbrev pub HoldParts : ℕ → List (Option (List ℕ)) → List Status → Type 0
HoldParts sites rows ss = (site : ℕ) → site < sites → IsPartHeld sites site ss (held rows site)

-- each site's row is as before, or stores its part of the statuses
pub record PutsParts (sites : ℕ) (ss : List Status) (old new : List (Option (List ℕ))) : Type 0 where
  pub count : length new ≡ length old
  pub each : (site : ℕ) → site < sites → (held new site ≡ held old site) ⊎ IsPartHeld sites site ss (held new site)
