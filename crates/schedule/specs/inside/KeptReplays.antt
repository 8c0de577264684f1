-- What the replay keeps of a progress.
use Rattle.std.specs.Prelude.{◌≡◌, ◌≢◌, ℕ, Option, Some, None, length, Result, Ok, Err}
use Rattle.armus_base.specs.Plans.{Plan}
use Rattle.schedule.specs.declared.lines.Line.{Line}
use Rattle.schedule.specs.declared.pass.OpenPass.{OpenPass}
use Rattle.schedule.specs.declared.replaying.Replaying.{Replaying}
use Rattle.schedule.specs.declared.replaying.LineEnd.{LineEnd}
use Rattle.schedule.specs.declared.replaying.LineEnd.TheVariants.{Fault, NoMemory as LineWantsMemory}
use Rattle.schedule.specs.declared.verdict.ReplayEnd.{ReplayEnd}
use Rattle.schedule.specs.declared.verdict.ReplayEnd.TheVariants.{Schedule, NoMemory}
use Rattle.schedule.specs.inside.Following.{IsAt}
use Rattle.schedule.specs.inside.OpenPasses.{IsPassOf}
use Rattle.schedule.specs.Passes.{PassLoads, loads_of}
use Rattle.schedule.specs.Replays.{Progress, Takes, IsFault}
use Rattle.schedule.specs.Replaying.{AreVerdicts}

-- what is kept of the open pass
abbrev pub IsOpenPass : Plan → Option PassLoads → Option OpenPass → Type 0
IsOpenPass plan None None = Unit {0}
IsOpenPass plan (Some loads) (Some pass) = IsPassOf plan loads pass × length loads ≢ loads_of plan loads
IsOpenPass plan loads pass = ⊥

-- what is kept of a progress
pub record KeepsProgress (plan : Plan) (a : Progress) (replay : Replaying) : Type 0 where
  pub plan_is : replay.world.plan ≡ plan
  pub at : IsAt replay.world a.run
  pub open_pass : IsOpenPass plan a.open_pass replay.pass
  pub verdicts : AreVerdicts plan a.passes replay.verdicts
  pub steps : replay.steps ≡ length a.run

-- a line is taken, or it is at fault of this kind
abbrev pub TakesLine : Plan → Progress → Line → Replaying → Result (Unit {0}) LineEnd → Type 0
TakesLine plan a line replay (Ok _) = (b : Progress) × Takes plan a line b × KeepsProgress plan b replay
TakesLine plan a line replay (Err (Fault kind)) = IsFault plan a line kind
TakesLine plan a line replay (Err LineWantsMemory) = Unit {0}

-- the pass is open
pub record HasOpenPass (plan : Plan) (pass : OpenPass) : Type 0 where
  pub loads : PassLoads
  pub of : IsPassOf plan loads pass
  pub not_full : length loads ≢ loads_of plan loads

-- the end of a replay at the line with this number
abbrev pub end_at_line : LineEnd → ℕ → ReplayEnd
end_at_line (Fault kind) number = Schedule (record { line = number; kind = kind })
end_at_line LineWantsMemory number = NoMemory
