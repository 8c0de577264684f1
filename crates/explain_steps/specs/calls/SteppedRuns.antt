-- A run that was made step by step.
use Rattle.std.specs.Prelude.{◌≡◌, ◌++◌, ℕ, List}
use Rattle.armus_base.specs.Finals.{final_of}
use Rattle.armus_base.specs.Plans.{Plan, code_of}
use Rattle.armus_base.specs.Runs.{places}
use Rattle.armus_base.specs.States.{Step}
use Rattle.pl_core.specs.Tasks.{IsAtOp}
use Rattle.pl_core.specs.calls.Worlds.{WorldValue, action_by_code, places_of, state_of}
use Rattle.pl_syntax.specs.declared.tree.Program.{Program}
use Rattle.explain_tasks.specs.Places.{said_of}
use Rattle.explain_steps.specs.calls.SerialRuns.{IsWholeSerialRun}
use Rattle.explain_steps.specs.ShownSteps.{AreShown, LineWords, ShowSteps}
use Rattle.explain_steps.specs.declared.stepping.SteppedRun.{SteppedRun}

-- the line of the next step of task t in a world, at op i of its code
abbrev pub next_line : LineWords → ℕ → WorldValue → ℕ → ℕ → List ℕ
next_line words number w t i = said_of (λ x. words w.plan number (state_of w) t x i) (action_by_code w t)

-- some lines, and behind them the line of the next step of task t in a world
pub record HasNextLine (words : LineWords) (number : ℕ) (w : WorldValue) (t : ℕ) (old new : List ℕ) : Type 0 where
  pub op : ℕ
  pub stands : IsAtOp (code_of w.plan t) (places_of w t).done op
  pub is : new ≡ old ++ next_line words number w t op

-- the lines show the steps of the serial plain run of the plan in these words; the run leads to this world, with this value of its state
pub record IsRunBy (words : LineWords) (plan : Plan) (s : SteppedRun) : Type 0 where
  pub steps : List Step
  pub whole : IsWholeSerialRun plan steps
  pub shows : ShowSteps words plan steps s.lines
  pub plan_is : s.world.plan ≡ plan
  pub there : places_of s.world ≡ places steps
  pub end_is : s.end ≡ final_of plan (state_of s.world)

-- the lines show the steps of the serial plain run of the text's plan, which leads to this world, with this value of its state
pub record IsSteppedRun (text : List ℕ) (p : Program) (plan : Plan) (s : SteppedRun) : Type 0 where
  pub steps : List Step
  pub whole : IsWholeSerialRun plan steps
  pub shown : AreShown text p plan steps s.lines
  pub plan_is : s.world.plan ≡ plan
  pub there : places_of s.world ≡ places steps
  pub end_is : s.end ≡ final_of plan (state_of s.world)
