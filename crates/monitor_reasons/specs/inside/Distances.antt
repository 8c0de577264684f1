-- How far tasks are from a task that stops them, by their places: a task has the distance n where the shortest chain from it to the task has n others.
use Rattle.std.specs.Prelude.{◌≡◌, ℕ, zero, suc, ◌<◌, ◌≤◌, ◌-◌, ◌==◌, Bool, true, false, ◌&&◌, ◌||◌, if◌then◌else◌, All, Contains, Option, Some, None, List, [], ◌∷◌, length, map, nat_lt, slice_index_or}
use Rattle.std.specs.Global.{Vec}
use Rattle.std.specs.List.{slice_get}
use Rattle.monitor_laws.specs.States.{TraceState}
use Rattle.monitor_words.specs.Reasons.{HasNoCircle}
use Rattle.monitor_words.specs.Stops.{IsFirstCircle, stops}
use Rattle.monitor_words.proofs.Circles.{leads}
use Rattle.monitor_reasons.specs.Found.{participant_at}
use Rattle.monitor_reasons.specs.inside.PhaserPlaces.{places_in_group}

-- who stands at u stops who stands at t
abbrev pub stops_at : TraceState → (ℕ → Bool) → ℕ → ℕ → Bool
stops_at s stuck u t = stops s stuck (participant_at s.list u) (participant_at s.list t)

-- a chain with n others leads from t to f
abbrev pub leads_at : TraceState → (ℕ → Bool) → ℕ → ℕ → ℕ → Bool
leads_at s stuck f n t = leads s stuck (participant_at s.list f) n (participant_at s.list t)

-- the distance of a place, where one is known
abbrev pub distance_at : List (Option ℕ) → ℕ → Option ℕ
distance_at distances t = slice_index_or distances t None

-- of the distances below d: none is known where t has none of these
abbrev pub IsChainDistance : TraceState → (ℕ → Bool) → ℕ → ℕ → ℕ → Option ℕ → Type 0
IsChainDistance s stuck f d t None = (j : ℕ) → j < d → leads_at s stuck f j t ≡ false
IsChainDistance s stuck f d t (Some n) = (n < d) × (leads_at s stuck f n t ≡ true) × ((j : ℕ) → j < n → leads_at s stuck f j t ≡ false)

-- each place has its distance, where that is below d
pub record AreDistances (s : TraceState) (stuck : ℕ → Bool) (f d : ℕ) (distances : List (Option ℕ)) : Type 0 where
  pub long : length distances ≡ length s.list
  pub each : (t : ℕ) → t < length s.list → IsChainDistance s stuck f d t (distance_at distances t)

-- the same, but some that have the distance d may be known to have it
abbrev pub IsKnownDistance : TraceState → (ℕ → Bool) → ℕ → ℕ → ℕ → Option ℕ → Type 0
IsKnownDistance s stuck f d t None = (j : ℕ) → j < d → leads_at s stuck f j t ≡ false
IsKnownDistance s stuck f d t (Some n) = (n ≤ d) × (leads_at s stuck f n t ≡ true) × ((j : ℕ) → j < n → leads_at s stuck f j t ≡ false)

-- of each place
pub record AreKnownDistances (s : TraceState) (stuck : ℕ → Bool) (f d : ℕ) (distances : List (Option ℕ)) : Type 0 where
  pub long : length distances ≡ length s.list
  pub each : (t : ℕ) → t < length s.list → IsKnownDistance s stuck f d t (distance_at distances t)

-- the distance d where none is known and the test passes
abbrev pub filled : Option ℕ → Bool → ℕ → Option ℕ
filled None passes d = if passes then Some d else None
filled (Some n) passes d = Some n

-- all places that pass have a distance, d where none was known
pub record AreFilled (old new : List (Option ℕ)) (d : ℕ) (p : ℕ → Bool) : Type 0 where
  pub long : length new ≡ length old
  pub each : (t : ℕ) → t < length old → distance_at new t ≡ filled (distance_at old t) (p t) d

-- the distance before d
abbrev pub is_before : Option ℕ → ℕ → Bool
is_before None d = false
is_before (Some n) d = nat_lt n d && (d - n == 1)

-- whom u stops has the distance d at most: u has the distance before it, or is f
abbrev pub is_behind : List (Option ℕ) → ℕ → ℕ → ℕ → Bool
is_behind distances f d u = ((u == f) && (d == 0)) || is_before (distance_at distances u) d

-- a number below n passes
abbrev pub any_below : (ℕ → Bool) → ℕ → Bool
any_below p zero = false
any_below p (suc n) = any_below p n || p n

-- it is the distance n
abbrev pub is_distance : Option ℕ → ℕ → Bool
is_distance None n = false
is_distance (Some m) n = m == n

-- u has the distance n and stops t
abbrev pub is_next : TraceState → (ℕ → Bool) → List (Option ℕ) → ℕ → ℕ → ℕ → Bool
is_next s stuck distances n t u = is_distance (distance_at distances u) n && stops_at s stuck u t

-- the first place that does
pub record IsFirstNext (s : TraceState) (stuck : ℕ → Bool) (distances : List (Option ℕ)) (n t u : ℕ) : Type 0 where
  pub within : u < length s.list
  pub goes : is_next s stuck distances n t u ≡ true
  pub first : (k : ℕ) → k < u → is_next s stuck distances n t k ≡ false

-- from t on each place is the first from which it goes on, and behind the last the distance is 0
abbrev pub IsCircleWalk : TraceState → (ℕ → Bool) → List (Option ℕ) → ℕ → ℕ → List ℕ → Type 0
IsCircleWalk s stuck distances zero t [] = Unit {0}
IsCircleWalk s stuck distances zero t (u ∷ us) = ⊥
IsCircleWalk s stuck distances (suc n) t [] = ⊥
IsCircleWalk s stuck distances (suc n) t (u ∷ us) = IsFirstNext s stuck distances n t u × IsCircleWalk s stuck distances n u us

-- distances are known as far as a circle of f needs them
pub record AreSearched (s : TraceState) (stuck : ℕ → Bool) (f : ℕ) (distances : List (Option ℕ)) : Type 0 where
  pub bound : ℕ
  pub known : AreKnownDistances s stuck f bound distances
  pub none : distance_at distances f ≡ None → HasNoCircle s stuck (participant_at s.list f)

-- the places of a level, where there is one
abbrev pub level_at : List (Vec ℕ) → ℕ → List ℕ
level_at levels n = places_in_group (slice_get levels n)

-- whoever has a distance stands in the level behind it, as far as there are levels
abbrev pub HaveLevels : List (Option ℕ) → List (Vec ℕ) → Type 0
HaveLevels distances levels = (u n : ℕ) → u < length distances → distance_at distances u ≡ Some n → suc n < length levels → Contains (level_at levels (suc n)) u

-- the levels are as many as a circle of f needs
pub record AreLevels (f : ℕ) (distances : List (Option ℕ)) (levels : List (Vec ℕ)) : Type 0 where
  pub have : HaveLevels distances levels
  pub far : (n : ℕ) → distance_at distances f ≡ Some n → n < length levels

-- the places of the first circle of f, or none where it has no circle
abbrev pub IsFoundCircle : TraceState → (ℕ → Bool) → ℕ → Option (Vec ℕ) → Type 0
IsFoundCircle s stuck f None = HasNoCircle s stuck (participant_at s.list f)
IsFoundCircle s stuck f (Some places) =
    IsFirstCircle s stuck (participant_at s.list f) (map (participant_at s.list) places.items) × All (λ i. i < length s.list) places.items
