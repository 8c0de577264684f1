-- The world in which a run ends.
use Rattle.std.specs.Prelude.{◌≡◌, ℕ, List}
use Rattle.armus_base.specs.Finals.{final_of}
use Rattle.armus_base.specs.Plans.{Plan}
use Rattle.armus_base.specs.Runs.{IsMaximal, IsPlainRun, places}
use Rattle.armus_base.specs.States.{Step}
use Rattle.pl_core.specs.calls.Worlds.{WorldValue, places_of, state_of}
use Rattle.world_runs.specs.calls.PlainRuns.{IsPlainEnd}
use Rattle.world_runs.specs.declared.ending.WorldEnd.{WorldEnd}

-- a maximal plain run of the plan leads to this world
pub record IsEndWorld (plan : Plan) (w : WorldValue) : Type 0 where
  pub plan_is : w.plan ≡ plan
  pub steps : List Step
  pub run : IsPlainRun plan steps
  pub maximal : IsMaximal plan steps
  pub there : (t : ℕ) → places steps t ≡ places_of w t

-- the world in which a run of the plan ends, and the value of its state, which is that of every maximal plain run
pub record IsWorldEnd (plan : Plan) (e : WorldEnd) : Type 0 where
  pub world : IsEndWorld plan e.world
  pub value : e.end ≡ final_of plan (state_of e.world)
  pub plain : IsPlainEnd plan e.end
