-- Who stands at which phase, as a list.
use Rattle.std.specs.Prelude.{◌≡◌, ◌↔◌, ◌⊎◌, ℕ, ◌-◌, ◌<◌, ◌≤◌, Bool, true, false, List, length, slice_index_or, Contains}
use Rattle.armus_base.specs.declared.event.Event.{Event}
use Rattle.armus_base.specs.declared.status.Member.{Member}
use Rattle.armus_base.specs.declared.status.Status.{Status}
use Rattle.armus_base.specs.Deadlocks.{IsDeadBy}
use Rattle.adaptive.specs.declared.standings.PhaseStanding.{PhaseStanding}
use Rattle.dep_state.specs.inside.Made.{NotAfter}

-- the standing of the task of status k at this phase
abbrev pub standing_at : ℕ → Member → PhaseStanding
standing_at k m = record { at = record { p = m.p; n = m.n }; status = k }

-- the task of status k stands at phase n of phaser p
abbrev pub HasStanding : List Status → ℕ → ℕ → ℕ → Type 0
HasStanding ss k p n = (k < length ss) × ((s : Status) → Contains (slice_index_or ss k s).phases (record { p = record { 0 = p }; n = n }))

-- these are the standings of the list's tasks
pub record AreStandingsOf (ss : List Status) (standings : List PhaseStanding) : Type 0 where
  pub exact : (k p n : ℕ) → Contains standings (record { at = record { p = record { 0 = p }; n = n }; status = k }) ↔ HasStanding ss k p n

-- no standing is before one ahead of it
abbrev pub StandingsNeverFall : List PhaseStanding → Type 0
StandingsNeverFall xs = (i j : ℕ) (d : PhaseStanding) → i ≤ j → j < length xs → NotAfter (slice_index_or xs i d).at (slice_index_or xs j d).at

-- status k remains
abbrev pub remains_at : List Bool → ℕ → Bool
remains_at remains k = slice_index_or remains k false

-- of the statuses each is marked that remains, and no other one is of a dead task
pub record IsRemaining (ss : List Status) (remains : List Bool) : Type 0 where
  pub sized : length remains ≡ length ss
  pub gone : (k : ℕ) (s : Status) → k < length ss → remains_at remains k ≡ false → IsDeadBy ss (slice_index_or ss k s).t.0 → ⊥

-- ahead of index i of the standings, each one on phaser p is of a status that does not remain
abbrev pub IsFront : List PhaseStanding → List Bool → ℕ → ℕ → Type 0
IsFront standings remains p i =
    (j : ℕ) (d : PhaseStanding) → j < i → j < length standings → (slice_index_or standings j d).at.p.0 ≡ p → remains_at remains (slice_index_or standings j d).status ≡ false

-- status k remains, and its task stands on the event's phaser at a phase below
abbrev pub IsRemainingImpeder : List Status → List Bool → Event → ℕ → Type 0
IsRemainingImpeder ss remains e k = (n : ℕ) × HasStanding ss k e.p.0 n × (n < e.n) × (remains_at remains k ≡ true)

-- no status that remains is of a task that impedes the event
abbrev pub IsUnimpeded : List Status → List Bool → Event → Type 0
IsUnimpeded ss remains e = (k n : ℕ) → HasStanding ss k e.p.0 n → n < e.n → remains_at remains k ≡ false

-- the standing is on an earlier phaser, or on this one and of a status that does not remain
abbrev pub IsPassed : List Bool → ℕ → PhaseStanding → Type 0
IsPassed remains p x = (x.at.p.0 < p) ⊎ ((x.at.p.0 ≡ p) × (remains_at remains x.status ≡ false))

-- index i is past the standings, or that of one that is not passed over
abbrev pub IsStop : List PhaseStanding → List Bool → ℕ → ℕ → Type 0
IsStop standings remains p i = (d : PhaseStanding) → i < length standings → IsPassed remains p (slice_index_or standings i d) → ⊥

-- at index i there is a standing on the event's phaser at a phase below
abbrev pub IsStandingBelow : List PhaseStanding → ℕ → Event → Type 0
IsStandingBelow standings i e =
    (i < length standings) × ((d : PhaseStanding) → ((slice_index_or standings i d).at.p ≡ e.p) × ((slice_index_or standings i d).at.n < e.n))

-- the standing at index i is the first of all, or the one ahead of it is on an earlier phaser
abbrev pub IsFirstOnPhaser : List PhaseStanding → ℕ → Type 0
IsFirstOnPhaser standings i = (d : PhaseStanding) → (i ≡ 0) ⊎ ((slice_index_or standings (i - 1) d).at.p.0 < (slice_index_or standings i d).at.p.0)
