-- The statuses that remain while others are taken away.
use Rattle.std.specs.Prelude.{◌≡◌, ℕ, ◌+◌, ◌<◌, Bool, true, List, [], ◌∷◌, length, slice_index_or, All, if◌then◌else◌}
use Rattle.armus_base.specs.declared.status.Status.{Status}
use Rattle.adaptive.specs.declared.columns.Column.{Column}
use Rattle.adaptive.specs.declared.remaining.Remaining.{Remaining}
use Rattle.adaptive.specs.declared.standings.PhaseStanding.{PhaseStanding}
use Rattle.adaptive.specs.inside.Standings.{AreStandingsOf, IsFront, IsRemaining, IsRemainingImpeder, StandingsNeverFall, remains_at}

-- column c is there, and is that of phaser p
abbrev pub IsColumnOf : List Column → ℕ → ℕ → Type 0
IsColumnOf columns p c = (c < length columns) × ((d : Column) → (slice_index_or columns c d).p.0 ≡ p)

-- the front of each column is one
abbrev pub AreFronts : List PhaseStanding → List Bool → List Column → Type 0
AreFronts standings remains columns =
    (c : ℕ) (d : Column) → c < length columns → IsFront standings remains (slice_index_or columns c d).p.0 (slice_index_or columns c d).front

-- what is kept is of this list
pub record IsRemainingOf (ss : List Status) (kept : Remaining) : Type 0 where
  pub are : AreStandingsOf ss kept.standings.items
  pub ordered : StandingsNeverFall kept.standings.items
  pub within : All (λ x. x.status < length kept.remains.items) kept.standings.items
  pub fronts : AreFronts kept.standings.items kept.remains.items kept.columns.items
  pub remaining : IsRemaining ss kept.remains.items

-- each status that remains awaits an event which the task of one that remains impedes
abbrev pub AllImpeded : List Status → List Bool → Type 0
AllImpeded ss remains =
    (k : ℕ) (s : Status) → k < length ss → remains_at remains k ≡ true → (j : ℕ) × IsRemainingImpeder ss remains (slice_index_or ss k s).event j

-- how many remain
abbrev pub count_remaining : List Bool → ℕ
count_remaining [] = 0
count_remaining (b ∷ bs) = (if b then 1 else 0) + count_remaining bs
