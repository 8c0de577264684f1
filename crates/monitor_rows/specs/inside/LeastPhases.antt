-- The least phases on phasers, kept by their names.
use Rattle.std.specs.Prelude.{◌≡◌, ℕ, Bool, List, Contains, bytes_eq}
use Rattle.std.specs.Borrow.{Bor}
use Rattle.std.specs.HashMap.{HashMap, get_by}
use Rattle.std.specs.List.{list_any}
use Rattle.monitor_laws.specs.States.{Participant, Waiting}
use Rattle.monitor_laws.specs.Stuck.{has_phase_below, is_phase_below}

-- the least phase on a phaser is known and below n
abbrev pub is_noted_below : {S : Type 0} → HashMap (Bor (List ℕ)) ℕ S → List ℕ → ℕ → Bool
is_noted_below least q n = is_phase_below (get_by (λ k. bytes_eq q k.now) least) n

-- where somebody of the list waits for phase n of a phaser, its least phase is below n just where that of a member is
pub record AreLeastAwaited {S : Type 0} (list : List Participant) (least : HashMap (Bor (List ℕ)) ℕ S) : Type 0 where
  pub known : (t : Participant) (q : List ℕ) (n : ℕ) → Contains list t → t.condition ≡ Waiting q n → is_noted_below least q n ≡ list_any (λ u. has_phase_below u q n) list
