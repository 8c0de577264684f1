-- The run that avoids deadlock with one worker, and schedules.
use Rattle.std.specs.Prelude.{ℕ, List, [], ◌∷◌, ◌++◌, Option, Some, None}
use Rattle.armus_base.specs.Plans.{Plan, Action, action_at}
use Rattle.armus_base.specs.States.{Step}
use Rattle.armus_base.specs.Runs.{places}

-- the step that task t makes next by its code
abbrev pub next_step : ℕ → Option Action → List Step
next_step t None = []
next_step t (Some x) = record { task = t; action = x } ∷ []

-- the steps of a schedule of tasks, the last one first, each the next by its task's code, legal or not (a means to write small runs)
abbrev pub scheduled : Plan → List ℕ → List Step
scheduled plan [] = []
scheduled plan (t ∷ ts) = let h = scheduled plan ts in next_step t (action_at plan t (places h t).done) ++ h
