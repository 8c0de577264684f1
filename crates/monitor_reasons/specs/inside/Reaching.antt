-- One level more of the tasks that are stopped by others.
use Rattle.std.specs.Prelude.{◌≡◌, ℕ, ◌<◌, Bool, true, Option, Some, None, List, ◌⊎◌, Contains, bytes_eq, length}
use Rattle.std.specs.HashMap.{get_by}
use Rattle.monitor_laws.specs.States.{Participant, Waiting}
use Rattle.monitor_laws.specs.Stuck.{is_phase_below}
use Rattle.monitor_reasons.specs.Found.{participant_at}
use Rattle.monitor_reasons.specs.inside.Distances.{distance_at}
use Rattle.monitor_reasons.specs.declared.reaching.DistanceSearch.{DistanceSearch}

-- some that pass and had no distance have the distance d now, and these are the ones that are fresh; all others are as they were
pub record IsFilling (old new : DistanceSearch) (d : ℕ) (p : ℕ → Bool) : Type 0 where
  pub long : length new.distances.items ≡ length old.distances.items
  pub kept : (t : ℕ) → Contains old.fresh.items t → Contains new.fresh.items t
  pub only : (t : ℕ) → Contains new.fresh.items t → Contains old.fresh.items t ⊎ ((t < length old.distances.items) × (distance_at new.distances.items t ≡ Some d))
  pub each : (t : ℕ) →
      (distance_at new.distances.items t ≡ distance_at old.distances.items t)
      ⊎ ((distance_at old.distances.items t ≡ None) × (distance_at new.distances.items t ≡ Some d) × Contains new.fresh.items t × (p t ≡ true))

-- its distance is known
abbrev pub HasDistance : DistanceSearch → ℕ → Type 0
HasDistance search t = distance_at search.distances.items t ≡ None → ⊥

-- the phase above which all who wait at a phaser have a distance, where one is noted
abbrev pub passed_on : DistanceSearch → List ℕ → Option ℕ
passed_on search q = get_by (λ k. bytes_eq q k.now) search.passed

-- whoever waits for a phase above that has a distance
abbrev pub HavePassedDistances : List Participant → DistanceSearch → Type 0
HavePassedDistances us search =
    (t : ℕ) (q : List ℕ) (n : ℕ) → t < length us → (participant_at us t).condition ≡ Waiting q n → is_phase_below (passed_on search q) n ≡ true → HasDistance search t
