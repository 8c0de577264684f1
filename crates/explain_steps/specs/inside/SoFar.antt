-- A run so far.
use Rattle.std.specs.Prelude.{◌≡◌, List, length}
use Rattle.armus_base.specs.declared.op.Op.{Op}
use Rattle.armus_base.specs.declared.op.Op.TheVariants.{Adv, Await, Drop, Fork, Make, Reg}
use Rattle.armus_base.specs.States.{Step}
use Rattle.schedule.specs.inside.Following.{IsAt}
use Rattle.explain_steps.specs.SerialRuns.{IsSerialRun}
use Rattle.explain_steps.specs.ShownSteps.{AreLinesOf, LineWords, first_steps, most_shown}
use Rattle.explain_steps.specs.declared.stepping.Stepping.{Stepping}

-- the op is no await
abbrev pub IsNoAwait : Op → Type 0
IsNoAwait (Make p) = Unit {0}
IsNoAwait (Reg c p) = Unit {0}
IsNoAwait (Fork c) = Unit {0}
IsNoAwait (Adv p) = Unit {0}
IsNoAwait (Drop p) = Unit {0}
IsNoAwait (Await p off) = ⊥

-- the run has made these steps, and has their lines, as far as they are shown
pub record IsSoFar (words : LineWords) (h : List Step) (s : Stepping) : Type 0 where
  pub at : IsAt s.world h
  pub serial : IsSerialRun s.world.plan h
  pub counted : s.steps ≡ length h
  pub lines : AreLinesOf words s.world.plan (first_steps most_shown h) s.lines.items
