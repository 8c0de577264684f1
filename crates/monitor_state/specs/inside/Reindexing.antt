-- What is noted of one of the list, before and after it changes.
use Rattle.std.specs.Prelude.{◌≡◌, ℕ, Bool, false, ◌==◌, if◌then◌else◌, List}
use Rattle.monitor_laws.specs.States.{Participant}
use Rattle.monitor_laws.specs.Faults.{phase_on}
use Rattle.monitor_members.specs.Noted.{is_noted}
use Rattle.monitor_members.specs.declared.index.PhaserIndex.{PhaserIndex}
use Rattle.monitor_state.specs.Indexes.{is_phase, rests_at, awaits_phase}
use Rattle.monitor_state.specs.declared.member_index.MemberIndex.{MemberIndex}

-- number k is noted just where the test passes
abbrev pub IsNotedWhere : PhaserIndex → ℕ → (List ℕ → ℕ → Bool) → Type 0
IsNotedWhere index k test = (q : List ℕ) (n : ℕ) → is_noted index q n k ≡ test q n

-- number k becomes noted just where the test passes, and all others stay as they were
abbrev pub IsNotedAnew : PhaserIndex → PhaserIndex → ℕ → (List ℕ → ℕ → Bool) → Type 0
IsNotedAnew old new k test = (q : List ℕ) (n j : ℕ) → is_noted new q n j ≡ (if k == j then test q n else is_noted old q n j)

-- the same is noted
abbrev pub IsSameNoted : PhaserIndex → PhaserIndex → Type 0
IsSameNoted old new = (q : List ℕ) (n j : ℕ) → is_noted new q n j ≡ is_noted old q n j

-- what is noted with its number is what it is
pub record IsIndexed (index : MemberIndex) (u : Participant) : Type 0 where
  pub resting : IsNotedWhere index.resting u.number (λ q n. rests_at q n u)
  pub waiting : IsNotedWhere index.waiting u.number (λ q n. awaits_phase q n u)

-- with its number is noted anew what it is
pub record IsReindexed (old new : MemberIndex) (v : Participant) : Type 0 where
  pub resting : IsNotedAnew old.resting new.resting v.number (λ q n. rests_at q n v)
  pub waiting : IsNotedAnew old.waiting new.waiting v.number (λ q n. awaits_phase q n v)

-- with its number are noted anew all its phases, and no wait
pub record RestsEverywhere (old new : MemberIndex) (u : Participant) : Type 0 where
  pub resting : IsNotedAnew old.resting new.resting u.number (λ q n. is_phase (phase_on u q) n)
  pub waiting : IsNotedAnew old.waiting new.waiting u.number (λ q n. false)

-- with this number nothing is noted any more
pub record IsForgotten (old new : MemberIndex) (k : ℕ) : Type 0 where
  pub resting : IsNotedAnew old.resting new.resting k (λ q n. false)
  pub waiting : IsNotedAnew old.waiting new.waiting k (λ q n. false)

-- both have the same
pub record IsSameIndex (old new : MemberIndex) : Type 0 where
  pub resting : IsSameNoted old.resting new.resting
  pub waiting : IsSameNoted old.waiting new.waiting
