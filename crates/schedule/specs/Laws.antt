-- The laws of replays.
use Rattle.std.specs.Prelude.{◌≡◌, ℕ, ◌+◌, List, Some, length, slice_get}
use Rattle.armus_base.specs.Deadlocks.{IsDeadIn, IsDeadBy}
use Rattle.armus_base.specs.Plans.{Plan}
use Rattle.armus_base.specs.States.{Step}
use Rattle.armus_base.specs.Runs.{state_after}
use Rattle.schedule.specs.Passes.{PassLoads, statuses_found}

-- a closed pass names every task that is dead at its first load, and only tasks that are dead at its last
pub record NamesTheDead (plan : Plan) (loads : PassLoads) : Type 0 where
  pub first : (h : List Step) (t : ℕ) → slice_get loads 0 ≡ Some h → IsDeadIn (state_after h) t → IsDeadBy (statuses_found plan loads) t
  pub last : (h : List Step) (t n : ℕ) → length loads ≡ n + 1 → slice_get loads n ≡ Some h → IsDeadBy (statuses_found plan loads) t → IsDeadIn (state_after h) t
