-- Rounds of turns in a world, whatever one step of a task makes of it.
use Rattle.std.specs.Prelude.{◌≡◌, ◌<◌, ℕ, Bool, true, false, length, MatchBool}
use Rattle.std.proofs.Common.{zero, suc}
use Rattle.armus_base.specs.CheckedPlans.{IsCheckedPlan}
use Rattle.armus_base.specs.Finals.{final_of}
use Rattle.armus_base.specs.Runs.{IsReachable}
use Rattle.pl_core.specs.calls.Stands.{IsEnabled}
use Rattle.pl_core.specs.calls.Worlds.{WorldValue, places_of, state_of}
use Rattle.world_runs.specs.declared.ending.WorldEnd.{WorldEnd}
use Rattle.world_runs.specs.inside.Turns.{left_in}

-- Steps have led from the old world to the new one, or none has: it is of the same plan and kept; where there was one less is left, and else nothing has
-- changed.
pub record LeavesLess (keeps : WorldValue → Type 0) (old new : WorldValue) (moved : Bool) : Type 0 where
  pub plan : new.plan ≡ old.plan
  pub kept : keeps new
  pub less : moved ≡ true → left_in new < left_in old
  pub still : moved ≡ false → new ≡ old

-- task t goes on from the old world to the new one by steps of its own alone; by one at least, or by none
pub data GoesBy (makes : WorldValue → WorldValue → ℕ → Type 0) (t : ℕ) (old : WorldValue) : WorldValue → Bool → Type 0 where
  stays : GoesBy makes t old old false
  steps : {mid new : WorldValue} {moved : Bool} → GoesBy makes t old mid moved → makes mid new t → GoesBy makes t old new true

-- the turn of task t leads from the old world to the new one: it goes on until it may not
pub record IsTurnBy (makes : WorldValue → WorldValue → ℕ → Type 0) (t : ℕ) (old new : WorldValue) (moved : Bool) : Type 0 where
  pub goes : GoesBy makes t old new moved
  pub ended : IsEnabled new t → ⊥

-- the turn of task t leads there, if it has one
abbrev pub HasTurnIf : (WorldValue → WorldValue → ℕ → Type 0) → ℕ → Bool → WorldValue → WorldValue → Bool → Type 0
HasTurnIf makes t has old new moved = MatchBool has (IsTurnBy makes t old new moved) ((new ≡ old) × (moved ≡ false))

-- in a round from the first world the tasks below k that are forked in it have had their turns, and these lead to the new one; some made a step, or none
abbrev pub HaveTurns : (WorldValue → WorldValue → ℕ → Type 0) → WorldValue → ℕ → WorldValue → Bool → Type 0
HaveTurns makes first zero new moved = (new ≡ first) × (moved ≡ false)
HaveTurns makes first (suc k) new moved =
    (mid : WorldValue) × (before : Bool) × (acted : Bool) × (HaveTurns makes first k mid before) × (HasTurnIf makes k ((state_of first).forked k) mid new acted)
    × (moved ≡ false → (before ≡ false) × (acted ≡ false))

-- in a round each task that is forked in the old world has its turn
abbrev pub IsRoundBy : (WorldValue → WorldValue → ℕ → Type 0) → WorldValue → WorldValue → Bool → Type 0
IsRoundBy makes old new moved = HaveTurns makes old (length old.plan.parents) new moved

-- whole rounds lead from the old world to the new one
pub data GoesByRounds (makes : WorldValue → WorldValue → ℕ → Type 0) (old : WorldValue) : WorldValue → Type 0 where
  begun : GoesByRounds makes old old
  round : {mid new : WorldValue} (moved : Bool) → GoesByRounds makes old mid → IsRoundBy makes mid new moved → GoesByRounds makes old new

-- By whole rounds the run that had come to the old world has ended: one more round has no step. The value is that of the state of its world.
pub record HasEndedBy (makes : WorldValue → WorldValue → ℕ → Type 0) (keeps : WorldValue → Type 0) (old : WorldValue) (e : WorldEnd) : Type 0 where
  pub same_plan : e.world.plan ≡ old.plan
  pub checked : IsCheckedPlan e.world.plan
  pub reachable : IsReachable e.world.plan (places_of e.world)
  pub kept : keeps e.world
  pub rounds : GoesByRounds makes old e.world
  pub last : IsRoundBy makes e.world e.world false
  pub value : e.end ≡ final_of e.world.plan (state_of e.world)
