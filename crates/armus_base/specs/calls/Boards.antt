-- Boards: the runs that they allow, and the lawful places and holders of the lock.
use Rattle.std.specs.Prelude.{◌≡◌, ◌≢◌, ℕ, Bool, true, false, List, [], ◌∷◌, Option, Some, None}
use Rattle.armus_base.specs.Plans.{Plan, Action, Blocks, Refuses}
use Rattle.armus_base.specs.States.{Step, IsActive}
use Rattle.armus_base.specs.Runs.{Place, state_after, places, IsPlainRun}
use Rattle.armus_base.specs.calls.Runs.{IsAtAwait}
use Rattle.armus_base.specs.Avoidance.{IsAvoidedRun}

-- what happens on a board: a step, a taking of the lock, a freeing of it
pub data Entry : Type 0 where
  Does : (step : Step) → Entry
  Takes : (task : ℕ) → Entry
  Frees : (task : ℕ) → Entry

-- the steps among the entries, the last one first
abbrev pub steps_of : List Entry → List Step
steps_of [] = []
steps_of (Does e ∷ entries) = e ∷ steps_of entries
steps_of (Takes t ∷ entries) = steps_of entries
steps_of (Frees t ∷ entries) = steps_of entries

-- who holds the lock
abbrev pub holder : List Entry → Option ℕ
holder [] = None
holder (Does e ∷ entries) = holder entries
holder (Takes t ∷ entries) = Some t
holder (Frees t ∷ entries) = None

-- task t is active and stands before an await
abbrev pub StandsBeforeAwait : Plan → List Step → ℕ → Type 0
StandsBeforeAwait plan h t = IsActive (state_after h) t × IsAtAwait plan t (places h t)

-- with this holder of the lock: only the holder blocks or refuses, and it does nothing else
abbrev pub MayDo : Option ℕ → ℕ → Action → Type 0
MayDo lock t (Blocks a) = lock ≡ Some t
MayDo lock t (Refuses a) = lock ≡ Some t
MayDo lock t x = lock ≢ Some t

-- a task takes the lock before an await while nobody holds it, its holder frees it, and between them each does what it may
abbrev pub IsLocked : Plan → List Entry → Type 0
IsLocked plan [] = Unit {0}
IsLocked plan (Does e ∷ entries) = IsLocked plan entries × MayDo (holder entries) e.task e.action
IsLocked plan (Takes t ∷ entries) = IsLocked plan entries × holder entries ≡ None × StandsBeforeAwait plan (steps_of entries) t
IsLocked plan (Frees t ∷ entries) = IsLocked plan entries × holder entries ≡ Some t

-- nobody takes or frees a lock
abbrev pub HasNoLock : List Entry → Type 0
HasNoLock [] = Unit {0}
HasNoLock (Does e ∷ entries) = HasNoLock entries
HasNoLock (x ∷ entries) = ⊥

-- these steps, with no taking and no freeing of the lock
abbrev pub without_lock : List Step → List Entry
without_lock [] = []
without_lock (e ∷ h) = Does e ∷ without_lock h

-- a run of a board that detects deadlock, or of one that avoids it
abbrev pub IsBoardRun : Bool → Plan → List Entry → Type 0
IsBoardRun false plan entries = IsPlainRun plan (steps_of entries) × HasNoLock entries
IsBoardRun true plan entries = IsAvoidedRun plan (steps_of entries) × IsLocked plan entries

-- places, and a holder of the lock or none, to which a run of the board leads
pub record IsLawful (avoids : Bool) (plan : Plan) (a : ℕ → Place) (lock : Option ℕ) : Type 0 where
  pub entries : List Entry
  pub run : IsBoardRun avoids plan entries
  pub there : (t : ℕ) → places (steps_of entries) t ≡ a t
  pub held : holder entries ≡ lock
