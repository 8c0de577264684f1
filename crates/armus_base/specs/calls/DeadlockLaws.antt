-- Laws of deadlock: only a block kills, the dead stay dead, a collected deadlock stands, and nobody dies where deadlock is avoided.
use Rattle.std.specs.Prelude.{◌≡◌, ◌≢◌, ℕ, Bool, true, List, Option}
use Rattle.armus_base.specs.declared.status.Status.{Status}
use Rattle.armus_base.specs.Plans.{Plan, Action, Aim, Blocks}
use Rattle.armus_base.specs.States.{Step, after, IsLegal}
use Rattle.armus_base.specs.Runs.{Place, IsReachable, IsLegalRun, state_after, places}
use Rattle.armus_base.specs.calls.Runs.{ArePrefixes}
use Rattle.armus_base.specs.Places.{state_at}
use Rattle.armus_base.specs.CheckedPlans.{IsCheckedPlan}
use Rattle.armus_base.specs.Deadlocks.{IsDeadIn, IsDeadlockedSet, IsPublishedOn, IsAtPhase, IsListedOn, IsListedAt, NobodyDead}
use Rattle.armus_base.specs.Avoidance.{IsAvoidedRun}
use Rattle.armus_base.specs.calls.Boards.{IsLawful}
use Rattle.armus_base.specs.calls.Seats.{SeenBy, IsAsFarOn, IsKnownDead}
use Rattle.armus_base.specs.calls.Decisions.{HasFound}

-- a legal event that is no block makes nobody dead
abbrev pub OnlyBlocksKill : Type 0
OnlyBlocksKill =
    (plan : Plan) (h : List Step) (a : ℕ) (x : Action) (t : ℕ) → IsCheckedPlan plan → IsLegalRun plan h → IsLegal plan (state_after h) a x →
    ((aim : Aim) → x ≢ Blocks aim) → IsDeadIn (after (state_after h) a x) t → IsDeadIn (state_after h) t

-- a task that is dead after a run is dead, at the same place, after each run whose places are all at or after
abbrev pub DeadStays : Type 0
DeadStays =
    (plan : Plan) (h g : List Step) (t : ℕ) → IsCheckedPlan plan → IsLegalRun plan h → IsLegalRun plan g → ArePrefixes (places h) (places g) →
    IsDeadIn (state_after h) t → IsDeadIn (state_after g) t × places g t ≡ places h t

-- a task that is dead at reachable places is dead at later ones, and stands where it stood
abbrev pub DeadStaysAtReachable : Type 0
DeadStaysAtReachable =
    (plan : Plan) (a b : ℕ → Place) (t : ℕ) → IsCheckedPlan plan → IsReachable plan a → IsReachable plan b → ArePrefixes a b →
    IsDeadIn (state_at plan a) t → IsDeadIn (state_at plan b) t × b t ≡ a t

-- A set that is deadlocked in a list of statuses, each of whose events and phases was found at a place at or before that after a run, is deadlocked
-- after that run, and its tasks stand where they were found waiting.
abbrev pub CollectedIsDead : Type 0
CollectedIsDead =
    (plan : Plan) (g : List Step) (list : List Status) (tasks : ℕ → Bool) (at : ℕ → Place) (found : ℕ → ℕ → Place) →
    IsCheckedPlan plan → IsLegalRun plan g → IsDeadlockedSet (IsListedOn list) (IsListedAt list) tasks →
    HasFound plan (λ u. tasks u ≡ true) list at found (places g) →
    ((u : ℕ) → tasks u ≡ true → places g u ≡ at u) × IsDeadlockedSet (IsPublishedOn (state_after g)) (IsAtPhase (state_after g)) tasks

-- a set that is deadlocked in a list of statuses that were found before is deadlocked at reachable places, and its tasks stand where they were found
abbrev pub CollectedIsDeadAtReachable : Type 0
CollectedIsDeadAtReachable =
    (plan : Plan) (a : ℕ → Place) (list : List Status) (tasks : ℕ → Bool) (at : ℕ → Place) (found : ℕ → ℕ → Place) →
    IsCheckedPlan plan → IsReachable plan a → IsDeadlockedSet (IsListedOn list) (IsListedAt list) tasks →
    HasFound plan (λ u. tasks u ≡ true) list at found a →
    ((u : ℕ) → tasks u ≡ true → a u ≡ at u) × IsDeadlockedSet (IsPublishedOn (state_at plan a)) (IsAtPhase (state_at plan a)) tasks

-- in an avoided run nobody is ever dead
abbrev pub NobodyIsDead : Type 0
NobodyIsDead = (plan : Plan) (h : List Step) → IsCheckedPlan plan → IsAvoidedRun plan h → NobodyDead (state_after h)

-- on a board that avoids deadlock nobody is dead in any lawful state
abbrev pub NobodyIsDeadAtLawful : Type 0
NobodyIsDeadAtLawful =
    (plan : Plan) (a : ℕ → Place) (lock : Option ℕ) → IsCheckedPlan plan → IsLawful true plan a lock → NobodyDead (state_at plan a)

-- on a board that avoids deadlock nobody is known to be dead, where some lawful state is as far on as what is seen
abbrev pub NobodyIsKnownDead : Type 0
NobodyIsKnownDead =
    (plan : Plan) (own : Option ℕ) (seen : SeenBy) (a : ℕ → Place) (lock : Option ℕ) (t : ℕ) → IsCheckedPlan plan →
    IsLawful true plan a lock → IsAsFarOn plan own a seen → IsKnownDead true plan own seen t → ⊥
