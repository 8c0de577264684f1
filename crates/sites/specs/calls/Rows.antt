-- Rows: the bytes in which a site stores the statuses of its tasks.
use Rattle.std.specs.Prelude.{◌≡◌, ℕ, ◌^◌, ◌%◌, ◌<◌, ◌==◌, Bool, true, List, ◌++◌, All, length}
use Rattle.std.specs.Int.{w32, to_be_bytes}
use Rattle.std.specs.List.{flat_map}
use Rattle.armus_base.specs.declared.status.Member.{Member}
use Rattle.armus_base.specs.declared.status.Status.{Status}
use Rattle.armus_base.specs.calls.Statuses.{IsInOrder}

-- a phase: its phaser and its number
abbrev pub phase_bytes : Member → List ℕ
phase_bytes m = to_be_bytes w32 m.p.0 ++ to_be_bytes w32 m.n

-- a status: its task, the phaser and the phase of its event, how many phases it has, and each of them
abbrev pub status_bytes : Status → List ℕ
status_bytes s =
    to_be_bytes w32 s.t.0 ++ (to_be_bytes w32 s.event.p.0 ++ (to_be_bytes w32 s.event.n
    ++ (to_be_bytes w32 (length s.phases) ++ flat_map phase_bytes s.phases)))

-- the row of statuses: how many they are, and each of them
abbrev pub row_bytes : List Status → List ℕ
row_bytes ss = to_be_bytes w32 (length ss) ++ flat_map status_bytes ss

-- the numbers of a phase are below 2^32
pub record HasPhaseNumbers (m : Member) : Type 0 where
  pub phaser : m.p.0 < 2 ^ 32
  pub phase : m.n < 2 ^ 32

-- the numbers of a status are below 2^32
pub record HasNumbers (s : Status) : Type 0 where
  pub task : s.t.0 < 2 ^ 32
  pub phaser : s.event.p.0 < 2 ^ 32
  pub phase : s.event.n < 2 ^ 32
  pub phases : All HasPhaseNumbers s.phases

-- of so many sites, the task is one of this site
abbrev pub is_of_site : ℕ → ℕ → ℕ → Bool
is_of_site sites site t = t % sites == site

-- what a site may store: statuses of its own tasks, in order, fewer than 2^28, with numbers below 2^32
pub record AreOfSite (sites site : ℕ) (ss : List Status) : Type 0 where
  pub in_order : IsInOrder ss
  pub few : length ss < 2 ^ 28
  pub own : All (λ s. is_of_site sites site s.t.0 ≡ true) ss
  pub numbers : All HasNumbers ss

-- the row stores these statuses of the site
pub record IsRowOf (sites site : ℕ) (ss : List Status) (row : List ℕ) : Type 0 where
  pub stored : AreOfSite sites site ss
  pub bytes : row ≡ row_bytes ss

-- the row stores no statuses of the site
abbrev pub IsBadRow : ℕ → ℕ → List ℕ → Type 0
IsBadRow sites site row = (ss : List Status) → IsRowOf sites site ss row → ⊥
