-- Avoided runs: deadlock is avoided by refusals.
use Rattle.std.specs.Prelude.{◌≡◌, ℕ, List, [], ◌∷◌, Some}
use Rattle.armus_base.specs.declared.event.Event.{Event}
use Rattle.armus_base.specs.Plans.{Plan, Action, Blocks, Refuses}
use Rattle.armus_base.specs.States.{State, Step, awaited, if_published}
use Rattle.armus_base.specs.Runs.{state_after, IsNextStep, IsMaximal}
use Rattle.armus_base.specs.Deadlocks.{NobodyDead, WouldBeDead}

-- nobody would be dead, were task t published on the event
abbrev pub LeavesNobodyDead : State → ℕ → Event → Type 0
LeavesNobodyDead s t e = NobodyDead (if_published s t e)

-- a block publishes an event that leaves nobody dead, and a refusal comes only where its task would be dead
abbrev pub Avoids : State → ℕ → Action → Type 0
Avoids s t (Blocks a) = (e : Event) × awaited (Some (Blocks a)) (s.phases t) ≡ Some e × LeavesNobodyDead s t e
Avoids s t (Refuses a) = (e : Event) × awaited (Some (Blocks a)) (s.phases t) ≡ Some e × WouldBeDead s t e
Avoids s t x = Unit {0}

-- an avoided run: each step is legal after those before it and next by its task's code, each block leaves nobody dead, and each refusal is of a task that
-- would be dead
abbrev pub IsAvoidedRun : Plan → List Step → Type 0
IsAvoidedRun plan [] = Unit {0}
IsAvoidedRun plan (e ∷ h) = IsAvoidedRun plan h × IsNextStep plan h e × Avoids (state_after h) e.task e.action

-- a state in which a maximal avoided run ends
pub record IsAvoidedFinal (plan : Plan) (s : State) : Type 0 where
  pub steps : List Step
  pub run : IsAvoidedRun plan steps
  pub maximal : IsMaximal plan steps
  pub there : state_after steps ≡ s
