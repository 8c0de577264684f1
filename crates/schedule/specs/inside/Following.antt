-- Worlds that follow a run.
use Rattle.std.specs.Prelude.{◌≡◌, List}
use Rattle.armus_base.specs.CheckedPlans.{IsCheckedPlan}
use Rattle.armus_base.specs.Runs.{IsPlainRun, places}
use Rattle.armus_base.specs.States.{Step}
use Rattle.pl_core.specs.calls.Worlds.{WorldValue, places_of}

-- the world is of a checked plan, and stands where this plain run of it leads
pub record IsAt (w : WorldValue) (h : List Step) : Type 0 where
  pub checked : IsCheckedPlan w.plan
  pub run : IsPlainRun w.plan h
  pub there : places_of w ≡ places h
