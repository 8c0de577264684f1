-- The states to which runs lead.
use Rattle.std.specs.Prelude.{◌≡◌, ℕ, List}
use Rattle.armus_base.specs.Places.{done_by}
use Rattle.armus_base.specs.Plans.{Plan}
use Rattle.armus_base.specs.Runs.{IsLegalRun, places, state_after}
use Rattle.armus_base.specs.States.{State, Step}

-- how many actions of its code each task has done after these steps
abbrev pub done_after : List Step → ℕ → ℕ
done_after steps = done_by (places steps)

-- a legal run of the plan leads to this state, where each task has done so many actions of its code
pub record IsReachedState (plan : Plan) (s : State) (done : ℕ → ℕ) : Type 0 where
  pub steps : List Step
  pub run : IsLegalRun plan steps
  pub there : state_after steps ≡ s
  pub counts : (t : ℕ) → done_after steps t ≡ done t
