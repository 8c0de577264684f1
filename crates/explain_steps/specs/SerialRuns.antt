-- The serial plain run: of the tasks that may go on, the one with the least number makes the next step.
use Rattle.std.specs.Prelude.{◌≡◌, ◌≢◌, ℕ, ◌<◌, List, [], ◌∷◌, Some}
use Rattle.armus_base.specs.Plans.{Action, Aim, Plan, Refuses, action_at}
use Rattle.armus_base.specs.Runs.{IsNextStep, places, state_after}
use Rattle.armus_base.specs.States.{IsLegal, Step}

-- task t may go on after these steps: the next action of its code is legal
abbrev pub TaskMayGoOn : Plan → List Step → ℕ → Type 0
TaskMayGoOn plan h t = (x : Action) × (action_at plan t (places h t).done ≡ Some x) × IsLegal plan (state_after h) t x

-- after these steps this one is made: it is legal and the next by its task's code, refuses nothing, and no task with a lesser number may go on
pub record IsSerialStep (plan : Plan) (h : List Step) (e : Step) : Type 0 where
  pub next : IsNextStep plan h e
  pub plain : (aim : Aim) → e.action ≢ Refuses aim
  pub least : (t : ℕ) → t < e.task → TaskMayGoOn plan h t → ⊥

-- a serial plain run so far, the last step first
abbrev pub IsSerialRun : Plan → List Step → Type 0
IsSerialRun plan [] = Unit {0}
IsSerialRun plan (e ∷ h) = IsSerialRun plan h × IsSerialStep plan h e
