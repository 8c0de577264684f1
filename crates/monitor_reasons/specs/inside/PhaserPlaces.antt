-- Where those stand in the list who wait at phasers, and the wildcards that one task plays.
use Rattle.std.specs.Prelude.{◌≡◌, ℕ, ◌<◌, ◌==◌, true, Option, Some, None, List, [], Contains, bytes_eq, length}
use Rattle.std.specs.Borrow.{Bor}
use Rattle.std.specs.Global.{Vec}
use Rattle.std.specs.HashMap.{HashMap, get_by}
use Rattle.std.specs.List.{list_any}
use Rattle.monitor_laws.specs.States.{Participant, Waiting}
use Rattle.monitor_words.specs.Stops.{lone_task}
use Rattle.monitor_reasons.specs.Found.{participant_at}
use Rattle.monitor_reasons.specs.declared.phaser_places.PhaserPlaces.{PhaserPlaces}

-- the places of a group
abbrev pub places_in_group : Option (Vec ℕ) → List ℕ
places_in_group None = []
places_in_group (Some group) = group.items

-- the places under a name
abbrev pub places_named : {S : Type 0} → HashMap (Bor (List ℕ)) (Vec ℕ) S → List ℕ → List ℕ
places_named groups q = places_in_group (get_by (λ k. bytes_eq q k.now) groups)

-- the places under a number
abbrev pub places_numbered : {S : Type 0} → HashMap ℕ (Vec ℕ) S → ℕ → List ℕ
places_numbered groups k = places_in_group (get_by (λ j. k == j) groups)

-- whoever waits at a phaser stands at a place under its name
abbrev pub HaveWaitingPlaces : List Participant → (List ℕ → List ℕ) → Type 0
HaveWaitingPlaces us group = (i : ℕ) (q : List ℕ) (n : ℕ) → i < length us → (participant_at us i).condition ≡ Waiting q n → Contains (group q) i

-- each wildcard that the task with this number alone may play stands at one of these places
abbrev pub ArePlayedBy : List Participant → ℕ → List ℕ → Type 0
ArePlayedBy us k places = (i : ℕ) → i < length us → list_any (λ j. j == k) (lone_task (participant_at us i).condition) ≡ true → Contains places i

-- each wildcard that one task alone may play stands at a place under the number of that task
abbrev pub HaveWildcardPlaces : List Participant → (ℕ → List ℕ) → Type 0
HaveWildcardPlaces us group = (i k : ℕ) → i < length us → list_any (λ j. j == k) (lone_task (participant_at us i).condition) ≡ true → Contains (group k) i

-- both of these
pub record ArePhaserPlaces (us : List Participant) (places : PhaserPlaces) : Type 0 where
  pub waiting : HaveWaitingPlaces us (places_named places.waiting)
  pub wildcards : HaveWildcardPlaces us (places_numbered places.wildcards)
