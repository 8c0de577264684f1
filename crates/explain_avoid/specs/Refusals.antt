-- The paragraphs of the refusals of a run.
use Rattle.std.specs.Prelude.{◌≡◌, ℕ, List, [], ◌∷◌, ◌++◌, Option, Some}
use Rattle.armus_base.specs.declared.event.Event.{Event}
use Rattle.armus_base.specs.declared.ids.TaskId.{TaskId}
use Rattle.armus_base.specs.Finals.{final_of}
use Rattle.armus_base.specs.Plans.{Action, Advances, Aim, Blocks, Drops, Forks, Makes, Passes, Plan, Refuses, Registers, code_of}
use Rattle.armus_base.specs.Runs.{places, state_after}
use Rattle.armus_base.specs.States.{Step, awaited, if_published}
use Rattle.pl_core.specs.Tasks.{IsAtOp}
use Rattle.pl_syntax.specs.declared.tree.Program.{Program}
use Rattle.explain_facts.specs.Accounts.{Layout}
use Rattle.report.specs.Reports.{IsReportedCycle}
use Rattle.explain_avoid.specs.Released.{AreReleased, when_left}
use Rattle.explain_avoid.specs.RefusalWords.{refusal_words}

-- The paragraph of the refusal that task t makes after the steps h, of an await with this aim: in the state of this decision each task stands at an op of its
-- code; the deadlock is the one that a report would name in this state, were the task published on the event; and those are released whose events are reached
-- once the task has left its phasers.
pub record IsRefusalText (file : Option (List ℕ)) (l : Layout) (p : Program) (plan : Plan) (h : List Step) (t : ℕ) (aim : Aim) (text : List ℕ) : Type 0 where
  pub ops : ℕ → ℕ
  pub stand : (u : ℕ) → IsAtOp (code_of plan u) (places h u).done (ops u)
  pub event : Event
  pub awaits : awaited (Some (Blocks aim)) ((state_after h).phases t) ≡ Some event
  pub cycle : List TaskId
  pub closes : IsReportedCycle (final_of plan (if_published (state_after h) t event)).blocked cycle
  pub released : List TaskId
  pub go_on : AreReleased (state_after h) (when_left (state_after h) t) released
  pub text_is : text ≡ refusal_words file l p plan (state_after h) t event ops cycle released

-- what is told of a step that task t makes after the steps h: of a refusal its paragraph, and nothing of others
abbrev pub IsTold : Option (List ℕ) → Layout → Program → Plan → List Step → ℕ → Action → List ℕ → Type 0
IsTold file l p plan h t (Refuses aim) text = IsRefusalText file l p plan h t aim text
IsTold file l p plan h t (Makes q) text = text ≡ []
IsTold file l p plan h t (Registers c q) text = text ≡ []
IsTold file l p plan h t (Forks c) text = text ≡ []
IsTold file l p plan h t (Advances q) text = text ≡ []
IsTold file l p plan h t (Drops q) text = text ≡ []
IsTold file l p plan h t (Blocks aim) text = text ≡ []
IsTold file l p plan h t (Passes q) text = text ≡ []

-- the paragraphs of the refusals among these steps, the first one first; of the steps the last one stands first
abbrev pub AreRefusals : Option (List ℕ) → Layout → Program → Plan → List Step → List ℕ → Type 0
AreRefusals file l p plan [] text = text ≡ []
AreRefusals file l p plan (e ∷ h) text =
    (before : List ℕ) × (own : List ℕ) × AreRefusals file l p plan h before × IsTold file l p plan h e.task e.action own × (text ≡ before ++ own)
