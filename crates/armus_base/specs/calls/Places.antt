-- Places: how many of its own steps each task has made, and the state that they fix.
use Rattle.std.specs.Prelude.{◌≡◌, ℕ, ◌<◌, true, Some}
use Rattle.armus_base.specs.Plans.{Plan}
use Rattle.armus_base.specs.Runs.{Place}
use Rattle.armus_base.specs.calls.Runs.{IsAtAwait}
use Rattle.armus_base.specs.States.{Phases}
use Rattle.armus_base.specs.Places.{done_by, forked_at, kept, phases_after}

-- The phases of task t at a place that is not its first: the plan fixes them. At its first place these are the phases with which it begins, of
-- which its parent may not have registered all yet.
abbrev pub phases_at_place : Plan → ℕ → Place → Phases
phases_at_place plan t place = kept place.dropped (phases_after plan t place.done)

-- only a forked task has begun, and only one that stands before an await is refused
pub record IsConsistent (plan : Plan) (a : ℕ → Place) : Type 0 where
  pub begun : (t : ℕ) → 0 < (a t).done → forked_at plan (done_by a) t ≡ true
  pub refused :
      (t q : ℕ) → (a t).dropped ≡ Some q → forked_at plan (done_by a) t ≡ true × IsAtAwait plan t (a t)
