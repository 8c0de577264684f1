-- The run that avoids deadlock with one worker, and schedules.
use Rattle.std.specs.Prelude.{◌≡◌, ℕ, List, [], ◌∷◌, ◌++◌, Some, length, MatchBool}
use Rattle.std.proofs.Common.{zero, suc}
use Rattle.armus_base.specs.declared.event.Event.{Event}
use Rattle.armus_base.specs.Plans.{Plan, Action, Blocks, Refuses}
use Rattle.armus_base.specs.States.{State, Step, awaited}
use Rattle.armus_base.specs.Runs.{state_after, places, IsLegalRun, HasEnded}
use Rattle.armus_base.specs.Deadlocks.{WouldBeDead}

-- a task blocks where it would not be dead, and refuses where it would
abbrev pub IsDecided : State → ℕ → Action → Type 0
IsDecided s t (Blocks a) = (e : Event) × awaited (Some (Blocks a)) (s.phases t) ≡ Some e × (WouldBeDead s t e → ⊥)
IsDecided s t (Refuses a) = (e : Event) × awaited (Some (Blocks a)) (s.phases t) ≡ Some e × WouldBeDead s t e
IsDecided s t x = Unit {0}

-- task t goes on from h by its own steps alone, each decided so
abbrev pub GoesOn : Plan → ℕ → List Step → List Step → Type 0
GoesOn plan t h [] = Unit {0}
GoesOn plan t h (e ∷ own) = GoesOn plan t h own × e.task ≡ t × IsDecided (state_after (own ++ h)) t e.action

-- the turn of task t leads from h to h': it acts until it comes to an end
pub record IsTurn (plan : Plan) (t : ℕ) (h h' : List Step) : Type 0 where
  pub own : List Step
  pub there : h' ≡ own ++ h
  pub run : IsLegalRun plan h'
  pub goes_on : GoesOn plan t h own
  pub ended : HasEnded plan (state_after h') (places h' t) t

-- in a round from h the tasks below k that were forked before it have had their turns, and these lead to h'
abbrev pub RoundBelow : Plan → ℕ → List Step → List Step → Type 0
RoundBelow plan zero h h' = h' ≡ h
RoundBelow plan (suc k) h h' =
    (g : List Step) × RoundBelow plan k h g × MatchBool ((state_after h).forked k) (IsTurn plan k g h') (h' ≡ g)

-- the serial avoided run so far: whole rounds, in each of which the tasks take turns in order of number
pub data IsSerialAvoidedRun (plan : Plan) : List Step → Type 0 where
  opens : IsSerialAvoidedRun plan []
  rounds : {h g : List Step} → IsSerialAvoidedRun plan h → RoundBelow plan (length plan.parents) h g → IsSerialAvoidedRun plan g

-- the serial run has ended: one more round has no step
abbrev pub IsSerialAvoidedEnd : Plan → List Step → Type 0
IsSerialAvoidedEnd plan h = IsSerialAvoidedRun plan h × RoundBelow plan (length plan.parents) h h

-- the state in which the serial avoided run ends
pub record IsSerialAvoidedFinal (plan : Plan) (s : State) : Type 0 where
  pub steps : List Step
  pub ended : IsSerialAvoidedEnd plan steps
  pub there : state_after steps ≡ s
