-- What a pass over the first sites has done.
use Rattle.std.specs.Prelude.{◌≡◌, ℕ, ◌<◌, ◌≤◌, List, Option, Some, length, slice_get, slice_set}
use Rattle.armus_base.specs.Plans.{Plan}
use Rattle.board.specs.calls.Seats.{Frame, IsOf, Known}
use Rattle.sites.specs.calls.Keeping.{held}
use Rattle.sites.specs.calls.Passes.{HasSnapped}
use Rattle.sites.specs.calls.Snaps.{HasLookedOn}

-- the site's viewer made a snap, and its row was put: no other row changed
pub record PutsSnap (plan : Plan) (sites site : ℕ) (before now : Known) (old new : List (Option (List ℕ))) : Type 0 where
  pub row : List ℕ
  pub rows : new ≡ slice_set old site (Some row)
  pub snapped : HasSnapped plan sites site before now (Some row)

-- the first n sites have snapped, and the others have done nothing yet
pub record HaveSnapped (board : Frame) (sites n : ℕ) (before now : List Known) (old new : List (Option (List ℕ))) : Type 0 where
  pub count : length now ≡ length before
  pub kept : length new ≡ length old
  pub made : (site : ℕ) (m : Known) → slice_get now site ≡ Some m → IsOf m board
  pub looked : (site : ℕ) (k m : Known) → slice_get before site ≡ Some k → slice_get now site ≡ Some m → HasLookedOn k m
  pub snapped :
      (site : ℕ) (k m : Known) → site < n → slice_get before site ≡ Some k → slice_get now site ≡ Some m → HasSnapped board.plan sites site k m (held new site)
  pub views : (site : ℕ) → n ≤ site → slice_get now site ≡ slice_get before site
  pub rows : (site : ℕ) → n ≤ site → held new site ≡ held old site
